use Rattle.std.{proofs.Common.{◌++◌, ◌∙◌}, specs.Prelude.[]}
use Rattle.snoop_rules.proofs.TextLemmas.{piece_more}
use Rattle.snoop_draw.specs.{Rows.panel_text, declared.event.Event.TheVariants.Before}
use Rattle.snoop_draw.proofs.drawing.push_standing_panels.Goals as goal

pub loop-panel-preserved : goal.loop-panel-preserved
loop-panel-preserved c =
    let text = panel_text c.args.style c.args.machine.now.situation Before [] in
    piece_more text c.args.panels.now c.loop-panel.panel-index c.panel-item.result _ _ _
    c.loop-panel-test.true c.loop-panel.invariant (c.in_ok-push_panel.ensures ∙ (λ i. c.loop-panel.out.items ++ text (c.panel-item.is i)))
