-- What holds of every machine, as its users see it.
-- Source: this project's profile.
use Rattle.snoop_model.specs.{Coherent.{IsCoherent, IsCoherentRun}, declared.replies.{Reply.Reply, Refused.Refused}, Pictures.{Situation.{Situation, held_of, state_of}, Proper.keeps}, Runs.Run.{EveryRun, TheRun}}
use Rattle.snoop_trace.specs.{Extent.Extent, declared.{protocol.Protocol.Protocol, step.Step.Step}}
use Rattle.std.specs.Prelude.{◌≡◌, ℕ, List, Result, is_some}
use Rattle.snoop_model.specs.Moves.LookUps.{FindsRows}

-- no step of a run meets an impossible cell
abbrev pub RowsAreFound : Type 0
RowsAreFound = EveryRun (λ protocol shape steps outcomes s. (step : Step) → FindsRows s step)

-- the run of some steps is coherent
abbrev pub TheRunIsCoherent : Type 0
TheRunIsCoherent =
    (protocol : Protocol) (shape : Extent) (steps : List Step) (outcomes : List (Result Reply Refused)) (new : Situation) →
    TheRun protocol shape steps outcomes new → IsCoherentRun protocol shape steps outcomes new

-- the machine is coherent, no step meets an impossible cell, and a line keeps words exactly in the states that may read
pub record IsSafe (s : Situation) : Type 0 where
  pub coherent : IsCoherent s
  pub finds_rows : (step : Step) → FindsRows s step
  pub kept_where_readable : (core block : ℕ) → is_some (held_of s core block).kept ≡ keeps (state_of s core block)
