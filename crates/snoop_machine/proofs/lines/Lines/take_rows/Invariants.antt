use Rattle.snoop_machine.proofs.Common.{◌≤◌, ◌-◌, length, WritesRow, row_of, Taking}
use Rattle.snoop_machine.proofs.lines.Lines.take_rows.Given as goal

abbrev pub invariant-loop-core : goal.invariant-loop-core
invariant-loop-core g l =
    Taking l.protocol l.requestor l.request (row_of l.initial.self.rows l.block) (row_of l.self.rows l.block) l.from
    × (l.from ≤ length (row_of l.initial.self.rows l.block))
    × WritesRow l.block l.initial.self l.self

abbrev pub decreases-loop-core : goal.decreases-loop-core
decreases-loop-core g l = length (row_of l.initial.self.rows l.block) - l.from
