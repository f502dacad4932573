use Rattle.snoop_engine.proofs.{Common.length, Dealing.Dealt}
use Rattle.snoop_engine.proofs.deal.deal.Given as goal

abbrev pub invariant-loop-asked : goal.invariant-loop-asked
invariant-loop-asked l = Dealt l.fn.shape l.fn.asks l.asks l.lanes.items

abbrev pub decreases-loop-asked : goal.decreases-loop-asked
decreases-loop-asked l = length l.asks
