use Rattle.snoop_cores.proofs.Common.{IsServed, Row, slice_index_or, ℕ, ◌<◌}
use Rattle.snoop_cores.proofs.rows.unserved.Given as goal

abbrev pub invariant-loop-row : goal.invariant-loop-row
invariant-loop-row l = (k : ℕ) (d : Row) → k < l.row-index → IsServed l.seats (slice_index_or l.rows k d)
