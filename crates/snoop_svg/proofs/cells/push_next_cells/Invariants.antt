use Rattle.std.{proofs.Common.{◌≡◌, ◌++◌, Some, map, take}, specs.List.flat_map}
use Rattle.snoop_svg.specs.{Cells.cell_text, Looks.{cell_at, look_at}}
use Rattle.snoop_svg.proofs.cells.push_next_cells.Given as goal

-- the cells and the pieces so far
abbrev pub invariant-loop-old : goal.invariant-loop-old
invariant-loop-old l = record {
  cells : l.cells.items ≡ map (λ cell. cell_at l.machine.situation cell.column) (take l.old-index l.above);
  text : l.out.items ≡ l.fn.out.items ++ flat_map (λ cell. cell_text l.y cell.column (Some cell.look) (look_at l.machine.situation cell.column.subject)) (take l.old-index l.above);
}
