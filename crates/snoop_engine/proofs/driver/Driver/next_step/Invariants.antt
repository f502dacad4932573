use Rattle.snoop_engine.proofs.Common.{length, IsUnasked}
use Rattle.snoop_engine.proofs.driver.Driver.next_step.Given as goal

abbrev pub invariant-loop-core : goal.invariant-loop-core
invariant-loop-core l = IsUnasked l.fn.self l.self

abbrev pub decreases-loop-core : goal.decreases-loop-core
decreases-loop-core l = length l.self.turns
