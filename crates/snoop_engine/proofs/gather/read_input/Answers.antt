use Rattle.snoop_engine.proofs.{Common.◌∙◌, CourseLemmas.{driver_serves, in_order_serves}}
use Rattle.snoop_engine.proofs.gather.read_input.Goals as goal

pub returns-in_ok-gather-in-SerialRows-clause-steps : goal.returns-in_ok-gather-in-SerialRows-clause-steps
returns-in_ok-gather-in-SerialRows-clause-steps g c =
    let driver = c.in_ok-driver-in-SerialRows.ensures in
    let serves = in_order_serves driver.situation (driver.left ∙ c.deref.ensures.value) c.in_ok-gather-in-SerialRows.ensures.1.1 in
    rw c.in-SerialRows.is (c.in_ok-rows-in-SerialRows.rows.items, (c.in_ok-rows-in-SerialRows.ensures.read, serves))

pub returns-in_ok-gather-in-Rows-clause-steps : goal.returns-in_ok-gather-in-Rows-clause-steps
returns-in_ok-gather-in-Rows-clause-steps g c =
    let read = c.in_ok-driver-in-Rows.ensures.rows in
    rw c.in-Rows.is (read.0, (read.1.0, driver_serves read.1.1 c.in_ok-gather-in-Rows.ensures.1.1))
