use Rattle.snoop_cores.proofs.{Common.{length, next_number, Seating, slice_index_or, take, ℕ, ◌<◌}, Joining.AreFirst}
use Rattle.snoop_cores.proofs.gathering.answers_match.Given as goal

-- so far each core's operations are the first answers at its place
abbrev pub invariant-loop-place : goal.invariant-loop-place
invariant-loop-place l = (core : ℕ) (d : Seating) → core < length l.seats
    → AreFirst (take l.place l.log.items) core (next_number (take l.place l.log.items) core) (slice_index_or l.seats core d).answers
