use Rattle.snoop_history.proofs.Kept.{within_all}
use Rattle.snoop_history.proofs.log.Log.kept.Goals as goal

pub returns : goal.returns
returns c = rw (← c.self.view_is) (within_all c.self.invariant.kept)
