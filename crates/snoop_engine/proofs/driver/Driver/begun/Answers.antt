use Rattle.snoop_engine.proofs.Driving.{first_in, fit_begins, goes_begun, quiet_over}
use Rattle.snoop_engine.proofs.driver.Driver.begun.Goals as goal

pub turn_step-requires-clause-block : goal.turn_step-requires-clause-block
turn_step-requires-clause-block c = (first_in c.self.invariant (rw (← c.self.view_is) at c.requires.core) c.index_mut.ensures.value c.in_ok-work.ensures.left).0

pub invariant_of-self-2 : goal.invariant_of-self-2
invariant_of-self-2 c =
    fit_begins c.self.invariant (rw (← c.self.view_is) at c.requires.core) (rw (← c.self.view_is) at c.requires.over) _ c.index_mut.ensures.value c.in_ok-work.ensures.left
    (rw (← c.self.view_is) at c.requires.turn) c.in_ok-work.ensures.work

pub returns-clause-enabled : goal.returns-clause-enabled
returns-clause-enabled c =
    goes_begun c.self.invariant (rw (← c.self.view_is) at c.requires.core) (rw (← c.self.view_is) at c.requires.over) c.take_up.new.self c.index_mut.ensures.value c.in_ok-work.ensures.left _
    c.turn_step.ensures

pub returns-clause-apart : goal.returns-clause-apart
returns-clause-apart c =
    rw (← c.self.view_is, c.turn_step.ensures) (quiet_over c.self.invariant (rw (← c.self.view_is) at c.requires.core) (rw (← c.self.view_is) at c.requires.over))
