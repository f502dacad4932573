use Rattle.snoop_engine.proofs.{Common.◌∷◌, Common.◌++◌, Common.[], Gathering.leads_more}
use Rattle.snoop_engine.proofs.gather.gather.Goals as goal

pub loop-step-preserved : goal.loop-step-preserved
loop-step-preserved g c =
    let found = rw c.in-Some.is at c.find.ensures.found in (
      c.loop-step.invariant.0 ++ c.in_ok-take.field-0 ∷ [],
      rw c.in_ok-add.ensures (leads_more (g.C.Course.leads c.args.course.now) (g.C.Course.leads c.loop-step.course) (g.C.Course.leads c.take.new.self) c.loop-step.steps.items c.loop-step.invariant.0 c.in-Some.step c.in_ok-take.field-0 c.loop-step.invariant.1 (c.in_ok-take.ensures.leads c.loop-step.course found)),
    )
