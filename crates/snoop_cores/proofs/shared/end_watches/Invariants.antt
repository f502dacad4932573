use Rattle.std.proofs.Common.{vec_len}
use Rattle.snoop_cores.proofs.shared.end_watches.Given as goal

abbrev pub decreases-loop-watch : goal.decreases-loop-watch
decreases-loop-watch g l = vec_len l.watches
