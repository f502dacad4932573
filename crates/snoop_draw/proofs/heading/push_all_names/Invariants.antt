use Rattle.std.proofs.Common.{◌≡◌, ◌++◌, take, flat_map}
use Rattle.snoop_draw.specs.Headings.{names_of}
use Rattle.snoop_draw.proofs.heading.push_all_names.Given as goal

-- the pieces so far
abbrev pub invariant-loop-panel : goal.invariant-loop-panel
invariant-loop-panel l = l.out.items ≡ l.fn.out.items ++ flat_map (names_of l.style) (take l.panel-index l.panels)
