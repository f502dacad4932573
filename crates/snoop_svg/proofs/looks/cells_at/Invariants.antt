use Rattle.std.proofs.Common.{◌≡◌, take}
use Rattle.snoop_svg.specs.Looks.{cells_at}
use Rattle.snoop_svg.proofs.looks.cells_at.Given as goal

-- the cells so far
abbrev pub invariant-loop-column : goal.invariant-loop-column
invariant-loop-column l = l.cells.items ≡ cells_at l.machine.situation (take l.column-index l.columns)
