use Rattle.snoop_engine.proofs.{Common.◌≡◌, Common.{rules, Some}, InOrderLemmas.{block_is, goes_on_enabled, row_over}}
use Rattle.snoop_engine.proofs.serial_driver.SerialDriver.continued.Goals as goal

pub returns : goal.returns
returns c =
    let a = c.in_ok-row.is in
    let b = c.in_ok-row.was in
    let under : c.self.inside.row ≡ Some c.in_ok-row.row = search rules in
    let fit = rw under at c.self.invariant in
    let block = block_is c.self.inside.machine.situation.shape c.in_ok-row.row fit.begun _ _ (rw c.shape-shape.ensures at c.block_of.ensures) c.unwrap-block.ensures in
    let found = rw block at c.turn_step.ensures in
    record { asks_nothing = search rules; under_way = search rules; enabled = rw (← c.self.view_is) (goes_on_enabled fit _ found); over = rw (← c.self.view_is) (row_over fit _ found) }
