use Rattle.std.{proofs.Common.{◌≡◌, ◌++◌, take}, specs.List.flat_map}
use Rattle.snoop_svg.specs.Sheets.{column_heading}
use Rattle.snoop_svg.proofs.sheet.push_column_headings.Given as goal

-- the pieces so far
abbrev pub invariant-loop-column : goal.invariant-loop-column
invariant-loop-column l = l.out.items ≡ l.fn.out.items ++ flat_map (column_heading l.shape l.bottom) (take l.column-index l.columns)
