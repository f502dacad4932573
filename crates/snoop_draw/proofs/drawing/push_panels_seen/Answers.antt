use Rattle.std.proofs.Common.{◌++◌, ◌∙◌}
use Rattle.snoop_rules.proofs.TextLemmas.{piece_more}
use Rattle.snoop_draw.specs.Drawings.{panel_seen}
use Rattle.snoop_draw.proofs.drawing.push_panels_seen.Goals as goal

pub loop-panel-preserved : goal.loop-panel-preserved
loop-panel-preserved c =
    let seen = c.args.seen.now in
    let text = panel_seen c.args.style c.args.machine.now.situation seen.block seen.step seen.outcome seen.lines.now in
    piece_more text c.args.panels.now c.loop-panel.panel-index c.panel-item.result _ _ _
    c.loop-panel-test.true c.loop-panel.invariant (c.in_ok-push_panel_seen.ensures ∙ (λ i. c.loop-panel.out.items ++ text (c.panel-item.is i)))
