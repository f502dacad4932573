-- A driver that serves rows one after another.
-- Source: this project's profile.
use Rattle.std.specs.Prelude.{◌≡◌, ℕ, ◌+◌, ◌*◌, ◌/◌, ◌≤◌, true, List, [], ◌∷◌, ◌++◌, length, map, All, IsOk, IfSome, Option, Some, None, Result}
use Rattle.snoop_trace.specs.{Extent.{Extent, IsWithinLimits}, Grammar.IsRowWithin, declared.step.{Row.Row, Step.Step}}
use Rattle.snoop_model.specs.{declared.replies.{Reply.Reply, Refused.Refused}, Pictures.Situation.Situation, Runs.Run.FirstRunFrom}
use Rattle.snoop_model.specs.Turns.{Quiet.IsQuiet, Serving.{IsUnderWay, steps_owed}}
use Rattle.snoop_engine.specs.{UnderWay.{ServesOnly, nothing, only}, Round.IsEnabled, Serial.{all_asks, ask_for, is_ask}}

-- the value of the driver: the machine's situation, the rows that have not been asked, and the row under way, which may be over
pub record InOrder : Type 0 where
  pub situation : Situation
  pub left : List Row
  pub row : Option Row

-- the core of the row has its block under way, and no other core has any
abbrev pub row_under_way : Extent → Option Row → ℕ → Option ℕ
row_under_way shape None = nothing
row_under_way shape (Some row) = only row.core (row.address / shape.block_bytes)

-- the rows lie within the shape, and the machine waits only for the row under way
pub record IsInOrder (s : Situation) (left : List Row) (row : Option Row) : Type 0 where
  pub limits : IsWithinLimits s.shape
  pub within : All (IsRowWithin s.shape) left
  pub begun : IfSome row (IsRowWithin s.shape)
  pub serves : ServesOnly (row_under_way s.shape row) s

-- the steps that may still come: three for each row that is left, and those that are owed
abbrev pub remaining_in_order : InOrder → ℕ
remaining_in_order d = 3 * length d.left + steps_owed d.situation

-- the step asks the row that was left first, while nothing waits and nothing is open, or it asks nothing
pub record TakesUpNext (old : InOrder) (step : Step) (after : List Row) : Type 0 where
  pub first : List Row
  pub left : old.left ≡ first ++ after
  pub asked : all_asks (step ∷ []) ≡ map (ask_for old.situation.shape) first
  pub rest : is_ask step ≡ true → IsQuiet old.situation

-- the step is the next one: the Ask of the row that was left first, or of the row under way, and no cause refuses it
pub record FindsInOrder (old : InOrder) (step : Step) (new : InOrder) : Type 0 where
  pub situation : new.situation ≡ old.situation
  pub takes_up : TakesUpNext old step new.left
  pub under_way : IsUnderWay (row_under_way new.situation.shape new.row) step
  pub enabled : IsEnabled new.situation step

-- these steps lead from here to rest
pub record LeadsToRest (here : Situation) (steps : List Step) : Type 0 where
  pub outcomes : List (Result Reply Refused)
  pub reached : Situation
  pub run : FirstRunFrom here steps outcomes reached
  pub quiet : IsQuiet reached

-- the steps, each taken, ask the rows that are left in their order, each at rest, and end in rest
pub record EndsInOrder (start : InOrder) (steps : List Step) (outcomes : List (Result Reply Refused)) (final : Situation) : Type 0 where
  pub run : FirstRunFrom start.situation steps outcomes final
  pub taken : All IsOk outcomes
  pub asked : all_asks steps ≡ map (ask_for start.situation.shape) start.left
  pub apart : (before after : List Step) (step : Step) → steps ≡ before ++ step ∷ after → is_ask step ≡ true → LeadsToRest start.situation before
  pub quiet : IsQuiet final
  pub few : length steps ≤ remaining_in_order start
