use Rattle.snoop_engine.proofs.{Common.◌∙◌, Common.SerialRows, CourseLemmas.in_order_serves, ShownLemmas.view_faulted}
use Rattle.snoop_engine.proofs.show.view_serial_rows.Goals as goal

pub returns-in_err-show-clause-does : goal.returns-in_err-show-clause-does
returns-in_err-show-clause-does g c =
    let begun = c.in_err-show.ensures.front in
    let serves = in_order_serves c.in-Ok.ensures.situation (c.in-Ok.ensures.left ∙ c.deref.ensures.value) begun.way in
    view_faulted SerialRows _ _ c.in_err-show.field-0.0 c.from_residual-in_err-show.ensures.1 (c.in_ok-rows.rows.items, (c.in_ok-rows.ensures.read, serves)) (rw c.in-Ok.ensures.situation at begun.holds)

pub returns-clause-does : goal.returns-clause-does
returns-clause-does g c =
    let all = c.in_ok-show.ensures.ok in
    let serves = in_order_serves c.in-Ok.ensures.situation (c.in-Ok.ensures.left ∙ c.deref.ensures.value) all.way in
    (all.steps, ((c.in_ok-rows.rows.items, (c.in_ok-rows.ensures.read, serves)), rw c.in-Ok.ensures.situation at all.holds))
