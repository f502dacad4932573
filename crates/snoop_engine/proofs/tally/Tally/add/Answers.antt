use Rattle.snoop_engine.proofs.TallyLemmas.{tallies_core, tallies_memory}
use Rattle.snoop_engine.proofs.tally.Tally.add.Goals as goal

pub returns-in-Core-default-default-Some-default : goal.returns-in-Core-default-default-Some-default
returns-in-Core-default-default-Some-default c lines far =
    let line = c.in-Core-default-default-Some-default in
    let met = rw line.is at line.event-is in
    rw (line.is, met) (tallies_core lines line.core line.block line.event line.before c.args.self.now.counters _ (rw c.core_place.ensures.place at c.count.ensures) far)

pub returns-in-Memory : goal.returns-in-Memory
returns-in-Memory c lines far =
    let line = c.in-Memory in
    rw line.is (tallies_memory lines line.block line.event line.before c.args.self.now.counters _ (rw c.memory_place.ensures.place at c.count-in-Memory.ensures) far)
