use Rattle.snoop_states.{proofs.Common.{ℕ, AreTables, Column, IsEmpty, List}, specs.Seen.IsHalfBegun}
use Rattle.snoop_states.proofs.tables.start_tables.Given as goal

-- the tables of the first blocks are begun
abbrev pub invariant-loop-block : goal.invariant-loop-block
invariant-loop-block l =
    (columns : ℕ → List Column) → AreTables l.machine.situation.shape l.choice (λ block. IsEmpty (columns block)) l.fn.tables.items
    → AreTables l.machine.situation.shape l.choice (λ block. IsHalfBegun l.widths l.choice l.machine.situation (columns block) l.block block) l.tables.items
