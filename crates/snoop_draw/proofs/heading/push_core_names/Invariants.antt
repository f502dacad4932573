use Rattle.std.proofs.Common.{◌≡◌, ◌++◌, take, flat_map}
use Rattle.snoop_draw.specs.Headings.{name_of_core}
use Rattle.snoop_draw.proofs.heading.push_core_names.Given as goal

-- the pieces so far
abbrev pub invariant-loop-core : goal.invariant-loop-core
invariant-loop-core l = l.out.items ≡ l.fn.out.items ++ flat_map (name_of_core l.style) (take l.core-index l.cores)
