-- The last steps in which something happened to a core or a word of a block.
-- Source: this project's profile.
use Rattle.std.specs.{Prelude.{◌≡◌, ℕ, Bool, false, List, Option, slice_get, slice_index, if◌then◌else◌}, List.list_any, Option.option_map_or}
use Rattle.snoop_history.specs.{declared.items.Did.Did, History.is_store_to}
use Rattle.snoop_engine.specs.{Frames.Frame, declared.taken.Taken.Taken}
use Rattle.snoop_counts.specs.{Causes.{gives_up, is_stored_to, last_step, loses, takes_such_row}, Counted.{is_giving_up, is_loss}, declared.last_steps.Row.Row}
use Rattle.snoop_counts.specs.declared.{copies.Copies.Copies, last_steps.LastSteps.LastSteps}

-- the number that stands in the row of a block, for a core or a word; 0 past its end
abbrev pub number_at : List Row → ℕ → ℕ → ℕ
number_at rows block at = option_map_or (λ row. slice_index row.numbers.items at) (slice_get rows block) 0

-- this number is written where the test passes, and nowhere else
abbrev pub Marks : (ℕ → ℕ → Bool) → ℕ → LastSteps → LastSteps → Type 0
Marks test number old new = (block at : ℕ) → number_at new.rows.items block at ≡ (if test block at then number else number_at old.rows.items block at)

-- what the lines of a step of this number say of copies is written
pub record MarksLines (number : ℕ) (lines : List Taken) (old new : Copies) : Type 0 where
  pub given_up : Marks (λ block core. list_any (takes_such_row is_giving_up block core) lines) number old.given_up new.given_up
  pub lost : Marks (λ block core. list_any (takes_such_row is_loss block core) lines) number old.lost new.lost
  pub stored : new.stored ≡ old.stored

-- the store of a step of this number is written, if it has one
pub record MarksStore (number : ℕ) (operation : Option Did) (old new : Copies) : Type 0 where
  pub given_up : new.given_up ≡ old.given_up
  pub lost : new.lost ≡ old.lost
  pub stored : Marks (λ block word. option_map_or (is_store_to block word) operation false) number old.stored new.stored

-- the numbers are those of the last steps that pass the test
pub record HasLastSteps (test : ℕ → ℕ → Frame → Bool) (frames : List Frame) (last : LastSteps) : Type 0 where
  pub number : (block at : ℕ) → number_at last.rows.items block at ≡ last_step (test block at) frames

-- it is known when each core last gave up and lost a copy of each block, and when each word was last stored to
pub record KnowsLastSteps (frames : List Frame) (copies : Copies) : Type 0 where
  pub given_up : HasLastSteps gives_up frames copies.given_up
  pub lost : HasLastSteps loses frames copies.lost
  pub stored : HasLastSteps is_stored_to frames copies.stored
