use Rattle.snoop_machine.proofs.Common.{◌≡◌, ◌≤◌, ℕ, [], length, vec_capacity, slice_index_or, no_cache}
use Rattle.snoop_machine.proofs.lines.Lines.new.Given as goal

abbrev pub invariant-loop : goal.invariant-loop
invariant-loop g l = ((core : ℕ) → (slice_index_or l.caches.items core no_cache).entries ≡ []) × (length l.caches.items ≡ l.counter) × (l.cores ≤ vec_capacity l.caches)
