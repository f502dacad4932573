use Rattle.snoop_cores.proofs.Common.{IsNew, length, Seating, slice_index_or, ℕ, ◌<◌, ◌≡◌}
use Rattle.snoop_cores.proofs.shared.Shared.add_seats.Given as goal

abbrev pub invariant-loop-core : goal.invariant-loop-core
invariant-loop-core g l = (length l.seats.items ≡ l.core) × ((core : ℕ) (d : Seating) → core < l.core → IsNew core l.lock.share.shape (slice_index_or l.seats.items core d))
