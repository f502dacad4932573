-- The laws of turns that follow the turn rule.
-- Source: this project's profile.
use Rattle.std.specs.Prelude.{◌≡◌, ◌≢◌, ℕ, ◌<◌, ◌≤◌, ◌+◌, Bool, true, Option, Some, None, if◌then◌else◌}
use Rattle.snoop_trace.specs.{Words.HasWord, Extent.Extent, declared.{step.{Op.Op, Step.Step}, protocol.Protocol.Protocol}}
use Rattle.snoop_model.specs.{declared.replies.{Reply.Reply, Refused.Refused}, Pictures.Situation.{Situation, reset}, Moves.{Move.FirstMove, Refuses.Refuses}}
use Rattle.snoop_model.specs.{Turns.{Turn.turn_of, Serving.{IsServing, IsUnderWay, steps_owed, steps_paid}, Quiet.IsQuiet}, Invariant.WellKept.IsWellKept}
use Rattle.snoop_model.specs.Runs.Owed.{Owes, ClosedIsLast, EndsAtOnce}

-- a machine at reset is well kept, and serves whatever works are under way
abbrev pub StartsWell : Type 0
StartsWell = (protocol : Protocol) (shape : Extent) (under_way : ℕ → Option ℕ) → IsWellKept (reset protocol shape) × IsServing under_way (reset protocol shape)

-- a move leaves it well kept
abbrev pub KeepsWell : Type 0
KeepsWell =
    (s t : Situation) (step : Step) (answer : Reply)
    → IsWellKept s → FirstMove s step answer t → IsWellKept t

-- no step of a turn is refused, memory aside
abbrev pub NeverRefused : Type 0
NeverRefused =
    (s : Situation) (under_way : ℕ → Option ℕ) (core block word : ℕ) (asking : Op) (begun : Bool) (step : Step)
    → IsServing under_way s → IsWellKept s → core < s.shape.cores → block < s.shape.blocks → HasWord s.shape word asking
    → under_way core ≡ (if begun then Some block else None) → turn_of s core block word asking begun ≡ Some step
    → (cause : Refused) → ¬ Refuses s step cause

-- a move serves on, once the core that asks has its block under way
abbrev pub ServesOn : Type 0
ServesOn =
    (s t : Situation) (before after : ℕ → Option ℕ) (step : Step) (answer : Reply)
    → IsServing before s → FirstMove s step answer t
    → ((core block : ℕ) → before core ≡ Some block → after core ≡ Some block) → IsUnderWay after step
    → IsServing after t

-- a work that has no step left is over: its core may have any other under way
abbrev pub Ends : Type 0
Ends =
    (s : Situation) (before after : ℕ → Option ℕ) (core block word : ℕ) (asking : Op)
    → IsServing before s → IsWellKept s → before core ≡ Some block → turn_of s core block word asking true ≡ None
    → ((other : ℕ) → other ≢ core → after other ≡ before other)
    → IsServing after s

-- with nothing under way the machine is quiet
abbrev pub ComesToRest : Type 0
ComesToRest = (s : Situation) → IsServing (λ _. None) s → IsWellKept s → IsQuiet s

-- each step is paid for by the Asks, three for each
abbrev pub Pays : Type 0
Pays =
    (s t : Situation) (step : Step) (answer : Reply)
    → FirstMove s step answer t → 1 + steps_owed t ≤ steps_paid step + steps_owed s

-- what holds of every turn that follows the turn rule
pub record TurnLaws : Type 0 where
  pub starts_well : StartsWell
  pub keeps_well : KeepsWell
  pub never_refused : NeverRefused
  pub serves_on : ServesOn
  pub ends : Ends
  pub comes_to_rest : ComesToRest
  pub pays : Pays
  pub owes : Owes
  pub closed_is_last : ClosedIsLast
  pub ends_at_once : EndsAtOnce
