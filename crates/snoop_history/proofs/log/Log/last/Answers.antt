use Rattle.snoop_history.proofs.Kept.{all_inside}
use Rattle.snoop_history.proofs.log.Log.last.Goals as goal

pub returns : goal.returns
returns c = let kept = c.self.invariant.kept in rw (← c.self.view_is) (rw (all_inside kept) at (c.last.ensures.board _ _ _ _ kept.tallied))
