-- The names that the proofs of this crate use most, passed on from one place.
pub use Rattle.std.proofs.{Common.{All, ap, false, List, None, refl, rules, Some, subst, sym, true, ◌∙◌, ◌≡◌}, lemmas.Grind.common_steps}
pub use Rattle.std.specs.Prelude.{Contains, filter, is_some, Ok, option_map, option_to_list, replicate, slice_set, if◌then◌else◌, ◌&&◌, ◌==◌}
pub use Rattle.std.proofs.lemmas.{Bool.{and_parts, cases_Bool, cases_eq, eq-eqb, eqb-true, lt-ltb, ne_eqb}, List.Elements.{All-nil, All-push}}
pub use Rattle.std.proofs.lemmas.Option.{gets, none-some, same_Some}
pub use Rattle.snoop_trace.specs.{Extent.Extent, Output.IsReadableStep, declared.step.{Op.Op, Step.{Step, TheVariants.{Ask, Order, Respond}}, Work.Work}}
pub use Rattle.snoop_rules.specs.{Waits.waiting_request, declared.names.Request.Request}
pub use Rattle.snoop_history.{specs.{History.{answers_of, last_of}, declared.items.Item.Item}, proofs.Pushed.{last_of-push, of_core}}
pub use Rattle.snoop_bus.specs.Traffic.{Open}
pub use Rattle.snoop_model.specs.{Invariant.WellKept.IsWellKept, Moves.Move.{FirstMove, as_access, next_did}, Runs.Once.{asked_access, did_access, OnceMore}}
pub use Rattle.snoop_model.specs.{Pictures.Situation.{picture_of, reset, Situation, state_of}, Runs.Owed.{IsLast, IsOwed}, Turns.Turn.{step_under_way, turn_of}}
pub use Rattle.snoop_model.{specs.{Turns.TurnLaws.TurnLaws, declared.{access.Access.Access, replies.Reply.Reply}}, proofs.Invariant.Safety.well_kept_in}
pub use Rattle.snoop_model.proofs.Once.{answers_after, one_or_none, owed_after, performed_by, waited_or_asked}
pub use Rattle.snoop_bench.specs.{Keeps.{AreUnderWay, locked}, Locked.{EndsWith, IsClosed, Locked, record_of}, Outcomes.{turn_asked, turn_over, works_asked}}
pub use Rattle.snoop_bench.specs.{Recording.{IsRecorded, Recording, TakesAndPublishes}, Turns.{Asked, Case, case_of, case_under_way, Finishes, TurnsIn}}
pub use Rattle.snoop_bench.specs.{Turns.Case.{ends, helps, orders, over}, Works.{access_of, Does, IsOp, work_at, works_under_way}}
