use Rattle.snoop_engine.proofs.{Common.sym, Driving.{goes_on, over_now}}
use Rattle.snoop_engine.proofs.driver.Driver.continued.Goals as goal

pub returns-clause-enabled : goal.returns-clause-enabled
returns-clause-enabled c = rw (← c.self.view_is) (goes_on c.self.invariant (rw (← c.self.view_is) at c.requires.core) c.index.ensures (sym c.in_ok-work.ensures) _ c.turn_step.ensures)

pub returns-clause-over : goal.returns-clause-over
returns-clause-over c = rw (← c.self.view_is) (over_now c.self.invariant (rw (← c.self.view_is) at c.requires.core) c.index.ensures (sym c.in_ok-work.ensures) _ c.turn_step.ensures)
