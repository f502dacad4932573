use Rattle.snoop_engine.proofs.{Common.Rows, CourseLemmas.driver_serves, ShownLemmas.view_faulted}
use Rattle.snoop_engine.proofs.show.view_rows.Goals as goal

pub returns-in_err-show-clause-does : goal.returns-in_err-show-clause-does
returns-in_err-show-clause-does g c =
    let read = c.in_ok-driver.ensures.rows in
    let begun = c.in_err-show.ensures.front in
    view_faulted Rows _ _ c.in_err-show.field-0.0 c.from_residual-in_err-show.ensures.1 (read.0, (read.1.0, driver_serves read.1.1 begun.way)) (rw read.1.1.situation at begun.holds)

pub returns-clause-does : goal.returns-clause-does
returns-clause-does g c =
    let read = c.in_ok-driver.ensures.rows in
    let all = c.in_ok-show.ensures.ok in
    (all.steps, ((read.0, (read.1.0, driver_serves read.1.1 all.way)), rw read.1.1.situation at all.holds))
