-- What a turn takes up, and what holds of a driver between turns.
-- Source: this project's profile.
use Rattle.std.specs.Prelude.{◌≡◌, ◌≢◌, ℕ, ◌+◌, ◌*◌, ◌<◌, List, [], ◌++◌, length, All, Contains, Option, None, IfSome, ◌⊎◌, ⊤, option_to_list}
use Rattle.snoop_trace.specs.{Words.HasWord, declared.step.{Step.{Step, TheVariants.Ask}, Work.Work}}
use Rattle.snoop_model.specs.{declared.replies.Refused.Refused, Pictures.Situation.Situation, Moves.Refuses.Refuses}
use Rattle.snoop_model.specs.{Turns.Serving.{IsServing, IsUnderWay, steps_owed}, Invariant.WellKept.IsWellKept}
use Rattle.snoop_engine.specs.{Todo.{Todo, todo_of, left_in, lanes_under_way}, Served.{ask_of, IsQuietFor}}

-- the value of a driver: the machine's situation, what each core has to do, and the cores that may have a step, in the order of their turns
pub record Progress : Type 0 where
  pub situation : Situation
  pub lanes : List Todo
  pub turns : List ℕ

-- the step asks what its core has left first, and nothing else is taken up
abbrev pub TakesUp : List Todo → Step → List Todo → Type 0
TakesUp old step new = (core : ℕ) → (todo_of old core).left ≡ option_to_list (ask_of core step) ++ (todo_of new core).left

-- a core has nothing left and nothing under way
abbrev pub IsIdle : Todo → Type 0
IsIdle todo = (todo.left ≡ []) × (todo.work ≡ None)

-- what the core has under way is over: it may have anything else
abbrev pub IsOver : List Todo → Situation → ℕ → Type 0
IsOver lanes s core = (after : ℕ → Option ℕ) → ((other : ℕ) → other ≢ core → after other ≡ lanes_under_way lanes other) → IsServing after s

-- where the step is an Ask, no request of its core waits or is open
abbrev pub AsksWhenQuiet : Situation → Step → Type 0
AsksWhenQuiet s (Ask core block word asking) = IsQuietFor s core
AsksWhenQuiet s _ = ⊤

-- no cause refuses the step
abbrev pub IsEnabled : Situation → Step → Type 0
IsEnabled s step = (cause : Refused) → ¬ Refuses s step cause

-- the work's block is there, and its word
abbrev pub IsWorkWithin : Situation → Work → Type 0
IsWorkWithin s work = (work.block < s.shape.blocks) × HasWord s.shape work.word work.op

-- the blocks and words of the core's works are there
pub record IsTodoWithin (s : Situation) (todo : Todo) : Type 0 where
  pub left : All (IsWorkWithin s) todo.left
  pub work : IfSome todo.work (IsWorkWithin s)

-- each core has its lane and waits only for its work under way, and a core without a turn has nothing to do
pub record IsFit (s : Situation) (lanes : List Todo) (turns : List ℕ) : Type 0 where
  pub cores : length lanes ≡ s.shape.cores
  pub within : (core : ℕ) → IsTodoWithin s (todo_of lanes core)
  pub serving : IsServing (lanes_under_way lanes) s
  pub kept : IsWellKept s
  pub few : All (λ core. core < s.shape.cores) turns
  pub busy : (core : ℕ) → Contains turns core ⊎ IsIdle (todo_of lanes core)

-- the steps that may still come: three for each row that is left, and those that are owed
abbrev pub remaining : Progress → ℕ
remaining progress = 3 * left_in progress.lanes + steps_owed progress.situation

-- the step is the next one: its core has it left first and nothing else under way, or has its row under way, and no cause refuses it
pub record Finds (old : Progress) (step : Step) (new : Progress) : Type 0 where
  pub situation : new.situation ≡ old.situation
  pub takes_up : TakesUp old.lanes step new.lanes
  pub apart : AsksWhenQuiet old.situation step
  pub under_way : IsUnderWay (lanes_under_way new.lanes) step
  pub enabled : IsEnabled new.situation step

-- nothing has been asked
pub record IsUnasked (old new : Progress) : Type 0 where
  pub situation : new.situation ≡ old.situation
  pub left : (core : ℕ) → (todo_of new.lanes core).left ≡ (todo_of old.lanes core).left
