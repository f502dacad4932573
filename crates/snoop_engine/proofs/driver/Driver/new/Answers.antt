use Rattle.snoop_engine.proofs.{Common.[], Completing.driver_can_end, Dealing.fit_new}
use Rattle.snoop_engine.proofs.driver.Driver.new.Goals as goal

pub invariant_of-result : goal.invariant_of-result
invariant_of-result c =
    rw c.in_ok-machine.ensures.at_reset
    (fit_new c.args.protocol c.args.shape c.args.asks c.in_ok-lanes.lanes.items c.in_ok-turns.turns.items c.within_limits.ensures c.requires
    c.in_ok-lanes.ensures.cores c.in_ok-lanes.ensures.left c.in_ok-lanes.ensures.idle c.in_ok-turns.ensures)

pub returns-clause-can_end : goal.returns-clause-can_end
returns-clause-can_end c =
    driver_can_end _ (rw c.in_ok-machine.ensures.at_reset
    (fit_new c.args.protocol c.args.shape c.args.asks c.in_ok-lanes.lanes.items c.in_ok-turns.turns.items c.within_limits.ensures c.requires
    c.in_ok-lanes.ensures.cores c.in_ok-lanes.ensures.left c.in_ok-lanes.ensures.idle c.in_ok-turns.ensures)) c.args.protocol c.args.shape [] [] c.in_ok-machine.ensures.at_reset
