use Rattle.std.proofs.Common.{◌≡◌, ◌++◌, take, flat_map}
use Rattle.snoop_draw.specs.Drawings.{panel_seen}
use Rattle.snoop_draw.proofs.drawing.push_panels_seen.Given as goal

-- the pieces so far
abbrev pub invariant-loop-panel : goal.invariant-loop-panel
invariant-loop-panel l = l.out.items ≡ l.fn.out.items ++ flat_map (panel_seen l.style l.machine.situation l.seen.block l.seen.step l.seen.outcome l.seen.lines.now) (take l.panel-index l.panels)
