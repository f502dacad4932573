-- The names that the proofs of this crate use most, passed on from one place.
pub use Rattle.std.proofs.Common.{[], ap, arith, Bor, false, get_or, length, List, None, refl, Some, subst, sym, take, true, true≢false, vec_capacity, ℕ, ◌++◌, ◌<◌, ◌∙◌, ◌∷◌, ◌≡◌, ◌≤◌}
pub use Rattle.std.{specs.Prelude.{All, filter_map, IsSome, slice_get, slice_index_or, slice_set, Vec}, proofs.lemmas.Grind.common_steps}
pub use Rattle.std.proofs.lemmas.Bool.{cases_eq, cases_lt, eq-eqb, lt-ltb, ne_eqb, true_from_ne_false}
pub use Rattle.std.proofs.lemmas.List.{get_or-map, get_or-set_other, get_or-set_same, get_or_default, length-map, length-set, length-take-le, length_push, map-append, same_from_push, take-append-drop, take-take, take_all, take_at, take_more}
pub use Rattle.std.proofs.lemmas.List.Elements.{All-get_or, All-push, filter-append, filter_map-append, filter_more}
pub use Rattle.std.proofs.lemmas.Option.{get_or_from_slice_get, gets, none-some, same_Some, slice_get-get_or, slice_get_cases, slice_get_past, slice_get_within}
pub use Rattle.snoop_trace.specs.{Extent.Extent, Grammar.{block_at, word_asked}, declared.step.{Op.Op, Row.Row, Work.Work}}
pub use Rattle.snoop_history.specs.{History.{answers_of, IsNumbered, last_of, last_or, next_number, operation_of, operations}, declared.items.Did.Did}
pub use Rattle.snoop_history.specs.declared.items.Item.{Item}
pub use Rattle.snoop_versions.specs.Readings.{Enters, IsOfShape, StartsWith, Viewing}
pub use Rattle.snoop_bench.specs.{Locked.{IsKept, Locked}, Works.{Does, IsOp, work_at, works_under_way}}
pub use Rattle.snoop_cores.specs.{Calls.{AddsNoAnswer, Completes, Fails, IsSettled, IsStranger, MayBegin, Stays}, Own.{GoesOn, Judged, Shows}}
pub use Rattle.snoop_cores.specs.Joined.{IsAnswered, IsFirst, IsFirstOutside, IsFree, IsHeld, IsJoined, IsNotAllSeats, OneForEach, RefusesGather, RefusesJoin, seats_of}
pub use Rattle.snoop_cores.specs.Rows.{AnswersRows, AreDealt, DoesRow, FailsOn, Grows, is_answered, IsNotLate, IsServed, Leaves, MayDo, MayDoFirst, Ran, RanDealt, RanTo, rows_of_core, shown, work_on}
pub use Rattle.snoop_cores.specs.Seats.{AreInOrder, AreWatches, IsNew, Seating}
