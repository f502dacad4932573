-- The steps so far have been taken.
use Rattle.snoop_machine.proofs.{Common.{◌≤◌, take, stand}, Runs.Going}
use Rattle.snoop_machine.proofs.machine.run_steps.Given as goal

abbrev pub invariant-loop-step : goal.invariant-loop-step
invariant-loop-step l = Going (stand l.initial.machine-inside.parts) (take l.step-index l.steps) l.taken (stand l.machine-inside.parts) × (l.taken ≤ l.step-index)
