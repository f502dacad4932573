use Rattle.std.proofs.Common.{◌≡◌, ◌≤◌, ◌+◌, ◌++◌, drop}
use Rattle.csv.specs.declared.parser.State.TheVariants as st
use Rattle.snoop_lint.specs.{Lines.lines_from, Places.state_at_place}
use Rattle.snoop_lint.proofs.lines.lines_from.Given as goal

-- the lines so far, and then those of what is left
abbrev pub invariant-loop-i : goal.invariant-loop-i
invariant-loop-i l = (l.lines.items ++ lines_from (state_at_place l.place) l.line (drop l.i l.text) ≡ lines_from st.StartRecord 1 l.text) × (l.line ≤ l.i + 1)
