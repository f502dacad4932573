use Rattle.snoop_cores.proofs.{Common.{arith, true_from_ne_false}, Joining.no_seat}
use Rattle.snoop_cores.proofs.rows.is_served.Goals as goal

pub returns-clause-whole : goal.returns-clause-whole
returns-clause-whole c = λ s. let t = c.loop-seat-test.false in true_from_ne_false c.loop-seat.found (λ none. c.loop-seat.invariant.2 none s.has.0 no_seat (omega (arith, t, s.has.1)) (s.has.2 no_seat))
