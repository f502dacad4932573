-- How far a driver has come with its rows.
-- Source: this project's profile.
use Rattle.std.specs.Prelude.{◌≡◌, ℕ, ◌≤◌, List, length, All, IsOk, Result}
use Rattle.snoop_trace.specs.{Extent.Extent, declared.{protocol.Protocol.Protocol, step.{Row.Row, Step.Step}}}
use Rattle.snoop_model.specs.{declared.replies.{Reply.Reply, Refused.Refused}, Pictures.Situation.{Situation, reset}, Turns.Quiet.IsQuiet}
use Rattle.snoop_model.specs.Runs.Run.{FirstRunFrom}
use Rattle.snoop_engine.specs.{Todo.{left_in, todo_of, works_of}, Round.{Progress, remaining}, Served.{AsksOneByOne, asks_of}}

-- the machine is at reset, and each core has its rows left
pub record IsAtTheStart (protocol : Protocol) (shape : Extent) (rows : List Row) (start : Progress) : Type 0 where
  pub situation : start.situation ≡ reset protocol shape
  pub left : (core : ℕ) → (todo_of start.lanes core).left ≡ works_of shape rows core
  pub all : left_in start.lanes ≡ length rows

-- the steps, each taken, ask all that each core had left, one thing at a time, and end in rest
pub record IsAtTheEnd (start : Progress) (steps : List Step) (outcomes : List (Result Reply Refused)) (final : Situation) : Type 0 where
  pub run : FirstRunFrom start.situation steps outcomes final
  pub taken : All IsOk outcomes
  pub asked : (core : ℕ) → (todo_of start.lanes core).left ≡ asks_of steps core
  pub apart : AsksOneByOne start.situation steps
  pub quiet : IsQuiet final
  pub few : length steps ≤ remaining start
