-- The names that the proofs of this crate use most, passed on from one place.
pub use Rattle.std.proofs.Common.{[], ℕ, ◌*◌, ◌++◌, ◌+◌, ◌-◌, ◌<◌, ◌∙◌, ◌∷◌, ◌≡◌, ◌≤◌, All, ap, append-nil, append_assoc, arith, Bool, cond, false, filter, flat_map, get_or, inl, inr, length, length-append, List, map, None, refl, rules, suc, sym, take, true}
pub use Rattle.std.proofs.lemmas.{Bool.{eq-eqb, ne_eqb}, List.{take_all, Elements.filter-append}, Result.{IfOk-equal, on_ok_weaker}}
pub use Rattle.std.specs.{Int.NonZero.non_zero_u64_get, Prelude.{◌&&◌, ◌==◌, ◌||◌, fold, if◌then◌else◌, not, Ok, Option, Result, Some}}
pub use Rattle.snoop_engine.proofs.Common.{All-head, All-nil, All-tail, cases_eq, Did, nat_tests, option_map_or, range_with_len, Refused, Reply, Situation, Step}
pub use Rattle.snoop_engine.{proofs.{RangeLemmas.range_piece, ShownLemmas.same_view, ViewLemmas.quiet_view}, specs.{Frames.Frame, Taken.lines_of_step}}
pub use Rattle.snoop_engine.specs.{Views.frame_seen, declared.taken.Taken.{Taken, TheVariants.Core}}
pub use Rattle.snoop_counts.specs.{BlockTally.CountsBlocks, ByBlock.{blocks_named, with_requests}, Causes.{cause_of, operation_in}}
pub use Rattle.snoop_counts.specs.{Counted.{counted_of, counts, is_counted, times_counted}, Happenings.happenings, LastSteps.MarksLines}
pub use Rattle.snoop_counts.specs.{Tally.{counter_in, HasCounted}, WordTally.CountsWords, declared.count.{Cause.Cause, Count.Count, Happening.Happening}}
pub use Rattle.snoop_counts.specs.declared.count.Subjects.{Subjects, TheVariants.{Blocks, Cores, Words}}
