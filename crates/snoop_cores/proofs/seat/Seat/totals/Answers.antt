use Rattle.snoop_cores.proofs.Beginnings.{reader_on}
use Rattle.snoop_cores.proofs.seat.Seat.totals.Goals as goal

pub invariant_of-self : goal.invariant_of-self
invariant_of-self c = reader_on c.self.inside c.read_totals.new.reader c.self.invariant c.read_totals.ensures.goes_on

pub returns-clause-own : goal.returns-clause-own
returns-clause-own c = (reader_on c.self.inside c.read_totals.new.reader c.self.invariant c.read_totals.ensures.goes_on).2
