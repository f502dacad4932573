use Rattle.std.proofs.Common.{◌≡◌, ◌++◌, take, flat_map, []}
use Rattle.snoop_draw.specs.{Rows.panel_text, declared.event.Event.TheVariants.Before}
use Rattle.snoop_draw.proofs.drawing.push_standing_panels.Given as goal

-- the pieces so far
abbrev pub invariant-loop-panel : goal.invariant-loop-panel
invariant-loop-panel l = l.out.items ≡ l.fn.out.items ++ flat_map (panel_text l.style l.machine.situation Before []) (take l.panel-index l.panels)
