use Rattle.snoop_states.proofs.Common.{◌++◌, ◌≡◌, column_name, flat_map, padded_text, take, width_of}
use Rattle.snoop_states.proofs.table.push_names.Given as goal

-- the names so far
abbrev pub invariant-loop-cell : goal.invariant-loop-cell
invariant-loop-cell l = l.out.items ≡ l.fn.out.items ++ flat_map (λ cell. padded_text (width_of l.widths cell.column) (column_name cell.column)) (take l.cell-index l.cells)
