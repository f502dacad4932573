use Rattle.snoop_engine.proofs.{Common.[], Common.{None, turn_rule}, Completing.in_order_can_end}
use Rattle.snoop_engine.proofs.serial_driver.SerialDriver.new.Goals as goal

pub returns-clause-can_end : goal.returns-clause-can_end
returns-clause-can_end c =
    let start = turn_rule.starts_well c.args.protocol c.args.shape (λ core. None) in
    in_order_can_end _ (rw c.in_ok-machine.ensures.at_reset (record { limits = c.within_limits.ensures; within = c.requires; begun = tt; serves = record { kept = start.0; serving = start.1 } }))
    c.args.protocol c.args.shape [] [] c.in_ok-machine.ensures.at_reset
