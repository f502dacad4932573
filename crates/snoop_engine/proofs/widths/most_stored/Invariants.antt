use Rattle.snoop_engine.proofs.Common.{◌≡◌, take, most_stored}
use Rattle.snoop_engine.proofs.widths.most_stored.Given as goal

-- the largest value so far
abbrev pub invariant-loop-step : goal.invariant-loop-step
invariant-loop-step l = l.most ≡ most_stored (take l.step-index l.steps)
