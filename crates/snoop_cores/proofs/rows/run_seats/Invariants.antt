use Rattle.snoop_cores.proofs.Common.{length, None, Seating, slice_index_or, ℕ, ◌<◌, ◌≡◌}
use Rattle.snoop_cores.proofs.rows.run_seats.Given as goal

abbrev pub invariant-loop-i : goal.invariant-loop-i
invariant-loop-i g l =
    (length l.stops.items ≡ length l.seats)
    × ((k : ℕ) (d : Seating) → k < l.i → slice_index_or l.stops.items k None ≡ (slice_index_or l.seats k d).stop)
