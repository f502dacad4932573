use Rattle.snoop_cores.proofs.Common.{IsAnswered, ℕ, ◌<◌}
use Rattle.snoop_cores.proofs.gathering.difference.Given as goal

abbrev pub invariant-loop-core : goal.invariant-loop-core
invariant-loop-core l = (core : ℕ) → core < l.core → IsAnswered l.log.items l.seats core
