use Rattle.std.proofs.Common.{◌≡◌, drop}
use Rattle.snoop_svg.specs.Layout.{column_for}
use Rattle.snoop_svg.proofs.columns.column_for.Given as goal

-- the column is among those that are left
abbrev pub invariant-loop-column : goal.invariant-loop-column
invariant-loop-column l = column_for l.subject l.columns ≡ column_for l.subject (drop l.column-index l.columns)
