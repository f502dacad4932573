use Rattle.snoop_engine.proofs.Driving.{fit_rotated}
use Rattle.snoop_engine.proofs.driver.Driver.pass_on.Goals as goal

pub invariant_of-self : goal.invariant_of-self
invariant_of-self c = rw c.rotate_left.ensures.items (fit_rotated c.self.invariant)
