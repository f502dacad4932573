use Rattle.snoop_bench.proofs.{Common.{None, refl, well_kept_in}, Turning.{Facing, facing, over_keeps}, Outcomes.finishes}
use Rattle.snoop_bench.proofs.bench.Bench.close.Goals.{After-recorded}
use Rattle.snoop_bench.proofs.bench.Bench.close.Goals as goal

faces : (c : After-recorded) → Facing c.self.inside.recorder.situation c.self.inside.works.items c.args.core c.args.work None
faces c = facing c.self.view_is c.args.core c.args.work c.self.invariant (well_kept_in _ c.recorded.ensures.safe) c.requires.inside c.requires.its c.requires.closed

pub invariant_of-self : goal.invariant_of-self
invariant_of-self c = rw c.set_work.ensures (over_keeps c.turns_are_served.ensures (faces (goal.at.invariant_of-self c).After-recorded))

pub returns : goal.returns
returns c =
    let last = rw (c.log.ensures.shape.0, c.log.ensures.items, c.machine.ensures) at c.last-last.ensures in
    let done = finishes c.turns_are_served.ensures (faces (goal.at.returns c).After-recorded) c.last-last.result last in
    rw (← c.self.view_is) (record { situation = refl; steps = refl; published = refl }, (rw c.over.ensures done, c.set_work.ensures))
