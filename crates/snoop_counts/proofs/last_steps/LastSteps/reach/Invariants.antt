use Rattle.std.proofs.Common.{vec_len}
use Rattle.snoop_counts.{proofs.Common.{ℕ, ◌+◌, ◌-◌, ◌≡◌}, specs.LastSteps.number_at}
use Rattle.snoop_counts.proofs.last_steps.LastSteps.reach.Given as goal

-- all numbers are the same so far
abbrev pub invariant-loop-alloc : goal.invariant-loop-alloc
invariant-loop-alloc l = (other at : ℕ) → number_at l.self.rows.items other at ≡ number_at l.fn.self.rows.items other at

abbrev pub decreases-loop-alloc : goal.decreases-loop-alloc
decreases-loop-alloc l = l.block + 1 - vec_len l.self.rows
