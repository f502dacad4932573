use Rattle.snoop_trace.{specs.Shape.extent, proofs.WordPlaces.word_within}
use Rattle.snoop_trace.proofs.shape.Shape.word_of.Goals as goal

pub returns-clause-within : goal.returns-clause-within
returns-clause-within c = rw (← c.self.view_is) (word_within (extent c.self.inside) c.self.invariant c.args.address)
