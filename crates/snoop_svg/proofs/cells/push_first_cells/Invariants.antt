use Rattle.std.{proofs.Common.{◌≡◌, ◌++◌, None, take}, specs.List.flat_map}
use Rattle.snoop_svg.specs.Cells.{cell_text}
use Rattle.snoop_svg.proofs.cells.push_first_cells.Given as goal

-- the pieces so far
abbrev pub invariant-loop-cell : goal.invariant-loop-cell
invariant-loop-cell l = l.out.items ≡ l.fn.out.items ++ flat_map (λ cell. cell_text l.y cell.column None cell.look) (take l.cell-index l.cells)
