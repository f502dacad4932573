use Rattle.snoop_machine.proofs.Common.{stand, is_safe}
use Rattle.snoop_machine.proofs.machine.Machine.coherent.Goals as goal

pub returns : goal.returns
returns c = rw c.self.view_is at (is_safe (stand c.self.inside.parts).situation c.self.invariant)
