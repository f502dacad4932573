use Rattle.std.proofs.Common.{◌≡◌, take, Some}
use Rattle.snoop_trace.proofs.Common.{IsReady, steps_text}
use Rattle.csv.specs.Writing.{text_written}
use Rattle.snoop_trace.proofs.output.records_text.Given as goal

-- the records so far were written
abbrev pub invariant-loop-step : goal.invariant-loop-step
invariant-loop-step l = IsReady l.records × (text_written (λ v. Some v.items) l.records ≡ Some (steps_text l.shape (take l.step-index l.steps)))
