use Rattle.snoop_cores.proofs.Common.{Grows, shown, take}
use Rattle.snoop_cores.proofs.seat.Seat.run_rows.Given as goal

abbrev pub invariant-loop-number : goal.invariant-loop-number
invariant-loop-number g l = Grows (take l.number (shown l.rows)) l.initial.self l.self
