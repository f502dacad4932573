use Rattle.snoop_engine.proofs.{Common.{List, Result, Reply, Refused}, Gathering.LeadsFrom}
use Rattle.snoop_engine.proofs.gather.gather.Given as goal

-- what leads on from here leads on from the start, after the steps so far
abbrev pub invariant-loop-step : goal.invariant-loop-step
invariant-loop-step g l = (outcomes : List (Result Reply Refused)) × LeadsFrom (g.C.Course.leads l.fn.course) (g.C.Course.leads l.course) l.steps.items outcomes

abbrev pub decreases-loop-step : goal.decreases-loop-step
decreases-loop-step g l = g.C.Course.left l.course
