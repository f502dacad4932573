use Rattle.snoop_engine.{proofs.Common.take, specs.Askers.{AreSetsBy, is_asker}}
use Rattle.snoop_engine.proofs.askers.Askers.of.Given as goal

-- the cores that ask in the steps so far
abbrev pub invariant-loop-step : goal.invariant-loop-step
invariant-loop-step l = AreSetsBy l.fn.shape (is_asker (take l.step-index l.steps)) l.sets
