use Rattle.snoop_engine.proofs.Dealing.{at_the_start}
use Rattle.snoop_engine.proofs.gather.read_driver.Goals as goal

pub returns-clause-rows : goal.returns-clause-rows
returns-clause-rows g c =
    let asked = c.in_ok-asks.ensures.read in
    let driver = c.in_ok-new.ensures in
    (asked.rows, (asked.given, at_the_start _ _ _ _ _ driver.situation asked.asks driver.left driver.all))
