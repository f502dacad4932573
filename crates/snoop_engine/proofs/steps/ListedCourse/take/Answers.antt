use Rattle.snoop_engine.proofs.Completing.{listed_can_end}
use Rattle.snoop_engine.proofs.steps.ListedCourse.take.Goals as goal

pub returns-in_default-clause-can_end : goal.returns-in_default-clause-can_end
returns-in_default-clause-can_end g c = listed_can_end (g.S.Script.steps c.args.self.now.script) c.step.new.self.situation

pub returns-in_default-2-clause-can_end : goal.returns-in_default-2-clause-can_end
returns-in_default-2-clause-can_end g c = listed_can_end (g.S.Script.steps c.args.self.now.script) c.step.new.self.situation
