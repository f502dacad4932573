-- What a core is still owed: its operation waits, or is the last one that it performed.
-- Source: this project's profile.
use Rattle.std.specs.Prelude.{◌≡◌, ◌≢◌, ◌⊎◌, ℕ, true, [], ◌∷◌, Option, Some, None, Ok}
use Rattle.snoop_trace.specs.declared.step.{Op.Op, Step.{Step, TheVariants.Ask}}
use Rattle.snoop_rules.specs.declared.names.Request.{Request}
use Rattle.snoop_history.specs.{declared.items.Did.Did, History.last_of}
use Rattle.snoop_model.specs.{declared.{access.Access.Access, replies.Reply.{Reply, TheVariants.Issued}}, Moves.Move.FirstMove}
use Rattle.snoop_model.specs.{Pictures.Situation.{Situation, held_of}, Runs.Once.{did_access, asked_access, OnceMore}, Invariant.WellKept.IsWellKept}
use Rattle.snoop_model.specs.Turns.{Serving.IsServing, Turn.turn_of}

-- the last operation that the core performed is this one on the block
abbrev pub IsLast : Situation → ℕ → ℕ → Access → Type 0
IsLast s core block wanted = (did : Did) × (last_of s.log core ≡ Some did) × (did.block ≡ block) × (did_access did ≡ wanted)

-- the core's operation on the block still waits, or is the last one that it performed
abbrev pub IsOwed : Situation → ℕ → ℕ → Access → Type 0
IsOwed s core block wanted = ((held_of s core block).waiting ≡ Some wanted) ⊎ IsLast s core block wanted

-- after a move, what waited before it or is asked by it is owed
abbrev pub Owes : Type 0
Owes =
    (s t : Situation) (step : Step) (answer : Reply)
    → FirstMove s step answer t → OnceMore s (step ∷ []) (Ok answer ∷ []) t
    → (core block : ℕ) (wanted : Access) → ((held_of s core block).waiting ≡ Some wanted) ⊎ (asked_access core block step ≡ Some wanted)
    → IsOwed t core block wanted

-- what is owed to a core whose work has no step left is its last operation
abbrev pub ClosedIsLast : Type 0
ClosedIsLast =
    (s : Situation) (core block word : ℕ) (asking : Op) (wanted : Access)
    → IsWellKept s → IsOwed s core block wanted → turn_of s core block word asking true ≡ None → IsLast s core block wanted

-- an Ask that issues no request ends its work at once, where the core had none under way
abbrev pub EndsAtOnce : Type 0
EndsAtOnce =
    (s t : Situation) (under_way : ℕ → Option ℕ) (core block word : ℕ) (asking : Op) (answer : Reply)
    → IsServing under_way s → under_way core ≡ None → IsWellKept t → FirstMove s (Ask core block word asking) answer t
    → ((request : Request) → answer ≢ Issued request) → turn_of t core block word asking true ≡ None
