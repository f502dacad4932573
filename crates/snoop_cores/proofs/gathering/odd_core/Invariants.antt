use Rattle.snoop_cores.proofs.Common.{Seating, seats_of, slice_index_or, ℕ, ◌<◌, ◌≡◌}
use Rattle.snoop_cores.proofs.gathering.odd_core.Given as goal

abbrev pub invariant-loop-core : goal.invariant-loop-core
invariant-loop-core l = (core : ℕ) → core < l.core → seats_of l.seats core ≡ 1

abbrev pub invariant-loop-seat : goal.invariant-loop-seat
invariant-loop-seat l = (k : ℕ) (d : Seating) → k < l.seat-index → (slice_index_or l.seats k d).core < l.cores
