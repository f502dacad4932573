-- Every load and store that was taken stands once in the history, or still waits.
-- Source: this project's profile.
use Rattle.std.specs.Prelude.{◌≡◌, ℕ, ◌&&◌, ◌==◌, List, [], ◌∷◌, ◌++◌, map, filter, filter_map, Option, None, option_to_list, Result, Ok, Err, if◌then◌else◌}
use Rattle.std.specs.List.Sorted.{IsPermutation}
use Rattle.snoop_trace.specs.declared.step.Op.TheVariants as op
use Rattle.snoop_trace.specs.declared.step.Step.{Step, TheVariants.Ask}
use Rattle.snoop_history.specs.{declared.items.{Did.Did, Item.Item}, History.answers_of}
use Rattle.snoop_model.specs.{declared.{access.Access.Access, replies.{Reply.Reply, Refused.Refused}}, Moves.Move.as_access}
use Rattle.snoop_model.specs.Pictures.Situation.{Situation, held_of}

-- the steps that were taken
abbrev pub taken : List Step → List (Result Reply Refused) → List Step
taken (step ∷ steps) (Ok answer ∷ outcomes) = step ∷ taken steps outcomes
taken (step ∷ steps) (Err cause ∷ outcomes) = taken steps outcomes
taken _ _ = []

-- the load or store of the block that a step asks of the core's cache, if any
abbrev pub asked_access : ℕ → ℕ → Step → Option Access
asked_access core block (Ask c b word asking) = if b == block && c == core then as_access word asking else None
asked_access core block _ = None

-- the load or store that was performed
abbrev pub did_access : Did → Access
did_access did = record { word = did.word; op = if did.load then op.Load else op.Store did.value }

-- the core's loads and stores of the block that the items have
abbrev pub accesses_in : List Item → ℕ → ℕ → List Access
accesses_in items core block = map did_access (filter (λ did. did.block == block) (answers_of items core))

-- the load or store of the block that waits at the core, if any
abbrev pub waiting_at : Situation → ℕ → ℕ → List Access
waiting_at s core block = option_to_list (held_of s core block).waiting

-- of each core and block, the loads and stores whose Asks were taken are those in the log and the one that waits, if any, each as often
abbrev pub Once : List Step → List (Result Reply Refused) → Situation → Type 0
Once steps outcomes s = (core block : ℕ) → IsPermutation (filter_map (asked_access core block) (taken steps outcomes)) (accesses_in s.log core block ++ waiting_at s core block)

-- the same as growth, from one situation to another: the log has items more, and the loads and stores that waited, and those whose Asks were taken, are those in these items and those that wait, each as often
pub record OnceMore (old : Situation) (steps : List Step) (outcomes : List (Result Reply Refused)) (new : Situation) : Type 0 where
  pub since : List Item
  pub log : new.log ≡ old.log ++ since
  pub once : (core block : ℕ) → IsPermutation (waiting_at old core block ++ filter_map (asked_access core block) (taken steps outcomes)) (accesses_in since core block ++ waiting_at new core block)
