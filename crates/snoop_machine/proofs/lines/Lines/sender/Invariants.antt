use Rattle.snoop_machine.proofs.Common.{◌≤◌, ◌-◌, length, free_picture, row_of, memory_line, SilentBelow}
use Rattle.snoop_machine.proofs.lines.Lines.sender.Given as goal

abbrev pub invariant-loop-core : goal.invariant-loop-core
invariant-loop-core g l =
    SilentBelow l.protocol (free_picture (row_of l.self.rows l.block) (memory_line l.fn.memory l.block)) l.requestor l.request l.from
    × (l.from ≤ length (row_of l.self.rows l.block))

abbrev pub decreases-loop-core : goal.decreases-loop-core
decreases-loop-core g l = length (row_of l.self.rows l.block) - l.from
