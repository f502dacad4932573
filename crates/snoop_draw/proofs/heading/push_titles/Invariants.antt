use Rattle.std.proofs.Common.{◌≡◌, ◌++◌, take, flat_map}
use Rattle.snoop_draw.specs.Headings.{title_line}
use Rattle.snoop_draw.proofs.heading.push_titles.Given as goal

-- the pieces so far
abbrev pub invariant-loop-panel : goal.invariant-loop-panel
invariant-loop-panel l = l.out.items ≡ l.fn.out.items ++ flat_map (title_line l.style l.shape) (take l.panel-index l.panels)
