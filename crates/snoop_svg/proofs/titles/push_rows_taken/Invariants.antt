use Rattle.std.{proofs.Common.{◌≡◌, ◌++◌, take}, specs.List.flat_map}
use Rattle.snoop_svg.specs.Titles.{taken_row}
use Rattle.snoop_svg.proofs.titles.push_rows_taken.Given as goal

-- the pieces so far
abbrev pub invariant-loop-taken : goal.invariant-loop-taken
invariant-loop-taken l = l.out.items ≡ l.fn.out.items ++ flat_map (taken_row l.machine.situation) (take l.taken-index l.lines)
