use Rattle.snoop_states.proofs.Common.{◌++◌, ◌≡◌, below, cell_text, flat_map, map, padded_text, pair, take, width_of}
use Rattle.snoop_states.proofs.table.push_cells.Given as goal

-- the cells so far
abbrev pub invariant-loop-cell : goal.invariant-loop-cell
invariant-loop-cell l =
    (map pair l.cells.items ≡ map (λ cell. (cell.column, cell_text l.machine.situation l.block cell.column)) (take l.cell-index l.above))
    × (l.out.items ≡ l.fn.out.items ++ flat_map (λ cell. padded_text (width_of l.widths cell.column) (below cell.text.items (cell_text l.machine.situation l.block cell.column))) (take l.cell-index l.above))
