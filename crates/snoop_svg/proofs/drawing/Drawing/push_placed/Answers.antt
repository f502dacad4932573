use Rattle.std.proofs.Common.{refl, append_assoc, ◌∙◌}
use Rattle.snoop_svg.proofs.drawing.Drawing.push_placed.Goals as goal

pub returns-clause-below : goal.returns-clause-below
returns-clause-below c above stands = record { number = refl; cells = c.in_ok-self.ensures.cells above.situation (c.deref-2.ensures.value ∙ stands.cells) }

pub returns-clause-text : goal.returns-clause-text
returns-clause-text c above stands =
    let turn = rw stands.number at (c.in_ok-push_turn.ensures above.situation (c.deref.ensures.value ∙ stands.cells)) in
    let row = rw (stands.number, c.y_at-y.ensures) at (c.in_ok-self.ensures.text above.situation (c.deref-2.ensures.value ∙ stands.cells)) in
    row ∙ rw turn (append_assoc c.args.out.now.items _ _)
