use Rattle.snoop_states.proofs.Common.{AreEach, columns_in, IsEmpty}
use Rattle.snoop_states.proofs.tables.empty_tables.Given as goal

-- the tables so far
abbrev pub invariant-loop-block : goal.invariant-loop-block
invariant-loop-block l = AreEach l.block (λ block. IsEmpty (columns_in l.askers block)) l.tables.items
