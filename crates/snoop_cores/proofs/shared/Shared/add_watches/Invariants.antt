use Rattle.snoop_cores.proofs.Common.{AreWatches}
use Rattle.snoop_cores.proofs.shared.Shared.add_watches.Given as goal

abbrev pub invariant-loop : goal.invariant-loop
invariant-loop g l = AreWatches l.counter l.lock.share.shape l.watches.items
