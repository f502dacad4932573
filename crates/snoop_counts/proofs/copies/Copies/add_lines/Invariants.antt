use Rattle.snoop_counts.proofs.Common.{MarksLines, take}
use Rattle.snoop_counts.proofs.copies.Copies.add_lines.Given as goal

-- the lines so far are marked
abbrev pub invariant-loop-line : goal.invariant-loop-line
invariant-loop-line l = MarksLines l.number (take l.line-index l.lines) l.fn.self l.self
