use Rattle.snoop_cores.proofs.Common.{IsFree, ℕ, ◌<◌}
use Rattle.snoop_cores.proofs.gathering.busy_core.Given as goal

abbrev pub invariant-loop-core : goal.invariant-loop-core
invariant-loop-core l = (core : ℕ) → core < l.core → IsFree l.bench l.seats core
