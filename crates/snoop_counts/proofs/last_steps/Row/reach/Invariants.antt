use Rattle.std.proofs.Common.{ℕ, ◌+◌, ◌-◌, ◌≡◌, slice_index, vec_len}
use Rattle.snoop_counts.proofs.last_steps.Row.reach.Given as goal

-- all numbers are the same so far
abbrev pub invariant-loop-self : goal.invariant-loop-self
invariant-loop-self l = (other : ℕ) → slice_index l.self.numbers.items other ≡ slice_index l.fn.self.numbers.items other

abbrev pub decreases-loop-self : goal.decreases-loop-self
decreases-loop-self l = l.at + 1 - vec_len l.self.numbers
