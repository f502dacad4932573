use Rattle.snoop_cores.proofs.Beginnings.{reader_on}
use Rattle.snoop_cores.proofs.seat.Seat.value.Goals as goal

pub invariant_of-self : goal.invariant_of-self
invariant_of-self c = reader_on c.self.inside c.read_value.new.reader c.self.invariant c.read_value.ensures.goes_on

pub returns-clause-own : goal.returns-clause-own
returns-clause-own c = (reader_on c.self.inside c.read_value.new.reader c.self.invariant c.read_value.ensures.goes_on).2
