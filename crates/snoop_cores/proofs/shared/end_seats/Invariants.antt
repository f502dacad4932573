use Rattle.std.proofs.Common.{vec_len}
use Rattle.snoop_cores.proofs.shared.end_seats.Given as goal

abbrev pub decreases-loop-seat : goal.decreases-loop-seat
decreases-loop-seat g l = vec_len l.seats
