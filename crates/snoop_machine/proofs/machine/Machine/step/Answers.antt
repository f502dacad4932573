use Rattle.snoop_machine.proofs.{Common.{stand, Answers, is_safe}, Runs.{answers, step_keeps, step_stays, step_tells}, machine.Machine.step.Goals.After-step}
use Rattle.snoop_model.proofs.Once.{step_once}
use Rattle.snoop_machine.proofs.machine.Machine.step.Goals as goal

went : (c : After-step) → Answers (stand c.self.inside.parts) c.args.step c.step.result (stand c.step.new.self)
went c = answers _ _ c.args.step c.step.result c.step.ensures.taken c.step.ensures.refused c.step.ensures.full c.step.ensures.room c.step.ensures.lines

pub invariant_of-self : goal.invariant_of-self
invariant_of-self c = step_keeps _ _ c.args.step c.step.result c.self.invariant (went (goal.at.invariant_of-self c).After-step)

pub returns-clause-safe : goal.returns-clause-safe
returns-clause-safe c =
    is_safe (stand c.step.new.self).situation (step_keeps _ _ c.args.step c.step.result c.self.invariant (went (goal.at.returns-clause-safe c).After-step))

pub returns-clause-once : goal.returns-clause-once
returns-clause-once c =
    rw c.self.view_is at (step_once (stand c.self.inside.parts).situation (stand c.step.new.self).situation c.args.step c.step.result c.self.invariant.inductive c.step.ensures.taken)

pub returns-clause-stays : goal.returns-clause-stays
returns-clause-stays c =
    rw c.self.view_is at (step_stays _ _ c.args.step c.step.result (went (goal.at.returns-clause-stays c).After-step))

pub returns-clause-told : goal.returns-clause-told
returns-clause-told c =
    rw c.self.view_is at (step_tells _ _ c.args.step c.step.result c.self.invariant (went (goal.at.returns-clause-told c).After-step))
