use Rattle.snoop_states.proofs.Common.{ℕ, ◌++◌, ◌≡◌, AreTables, block_table, Column, flat_map, Frame, IsTable, List, range_with_len}
use Rattle.snoop_states.proofs.tables.push_tables.Given as goal

-- the tables so far
abbrev pub invariant-loop-block : goal.invariant-loop-block
invariant-loop-block l =
    (columns : ℕ → List Column) (frames : List Frame)
    → AreTables l.machine.situation.shape l.choice (λ b. IsTable l.widths l.choice l.machine.situation.protocol l.machine.situation.shape (columns b) frames b) l.tables
    → l.out.items ≡ l.fn.out.items ++ flat_map (block_table l.widths l.choice l.machine.situation.protocol l.machine.situation.shape columns frames) (range_with_len 0 l.block)
