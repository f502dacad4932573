-- What becomes of a work: after its Ask, and when it is over.
-- Source: this project's profile.
use Rattle.std.specs.Prelude.{ℕ, List, Option, Some, None, slice_set}
use Rattle.snoop_trace.specs.declared.step.{Op.Op, Work.Work}
use Rattle.snoop_trace.specs.declared.step.Op.TheVariants as op
use Rattle.snoop_history.specs.declared.items.Did.{Did}
use Rattle.snoop_model.specs.declared.replies.Reply.{Reply}
use Rattle.snoop_model.specs.declared.replies.Reply.TheVariants as reply
use Rattle.snoop_bench.specs.declared.work.Evicted.TheVariants as evicted
use Rattle.snoop_bench.specs.declared.work.Turn.{Turn}
use Rattle.snoop_bench.specs.declared.work.Turn.TheVariants as turn

-- the works after an Ask: one that issued a request stays under way
abbrev pub works_asked : Reply → List (Option Work) → ℕ → Work → List (Option Work)
works_asked (reply.Issued request) works core work = slice_set works core (Some work)
works_asked _ works core work = works

-- the turn of an Ask, by its reply
abbrev pub turn_asked : Reply → Turn
turn_asked (reply.Hit value) = turn.Loaded value
turn_asked reply.StoreHit = turn.Stored
turn_asked reply.Gone = turn.Evicted evicted.Gone
turn_asked reply.Absent = turn.Evicted evicted.Absent
turn_asked _ = turn.Going

-- the turn that ends a work under way, by the core's last operation
abbrev pub turn_over : Op → Option Did → Turn
turn_over op.Load (Some did) = turn.Loaded did.value
turn_over op.Load None = turn.Going
turn_over (op.Store value) last = turn.Stored
turn_over op.Evict last = turn.Evicted evicted.Put
