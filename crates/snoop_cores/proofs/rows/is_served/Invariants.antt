use Rattle.snoop_cores.proofs.Common.{block_at, false, IsSome, length, Seating, slice_index_or, true, ℕ, ◌<◌, ◌≡◌}
use Rattle.snoop_cores.proofs.rows.is_served.Given as goal

abbrev pub invariant-loop-seat : goal.invariant-loop-seat
invariant-loop-seat l =
    ((k : ℕ) (d : Seating) → k < l.seat-index → (slice_index_or l.seats k d).core ≡ l.row.core → IsSome (block_at (slice_index_or l.seats k d).shape l.row.address))
    × (l.found ≡ true → (i : ℕ) × (i < length l.seats) × ((d : Seating) → (slice_index_or l.seats i d).core ≡ l.row.core))
    × (l.found ≡ false → (k : ℕ) (d : Seating) → k < l.seat-index → (slice_index_or l.seats k d).core ≡ l.row.core → ⊥)
