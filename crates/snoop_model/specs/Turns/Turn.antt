-- The turn rule: which step a turn takes.
-- Source: this project's profile.
use Rattle.std.specs.Prelude.{ℕ, ◌==◌, Bool, true, false, Option, Some, None, if◌then◌else◌}
use Rattle.snoop_trace.specs.declared.step.{Op.Op, Step.{Step, TheVariants.{Ask, Order, Respond}}}
use Rattle.snoop_rules.specs.{declared.names.Request.Request, Waits.waiting_request}
use Rattle.snoop_bus.specs.Traffic.{Open}
use Rattle.snoop_model.specs.Pictures.Situation.{Situation, picture_of, state_of}

-- the step of a core whose work is under way, by what waits there and what is open
abbrev pub step_under_way : Option Request → Option Open → ℕ → ℕ → Option Step
step_under_way (Some request) None core block = Some (Order core)
step_under_way (Some request) (Some transaction) core block = Some (Respond block)
step_under_way None (Some transaction) core block = if transaction.core == core then Some (Respond block) else None
step_under_way None None core block = None

-- the step of a core's turn; none where another core's turn has closed its work
abbrev pub turn_of : Situation → ℕ → ℕ → ℕ → Op → Bool → Option Step
turn_of s core block word asking false = Some (Ask core block word asking)
turn_of s core block word asking true = step_under_way (waiting_request (state_of s core block)) (picture_of s block).transaction core block
