-- What each core has to do.
-- Source: this project's profile.
use Rattle.std.specs.Prelude.{ℕ, ◌/◌, ◌==◌, List, [], ◌∷◌, length, map, filter, sum_by, Option, Some, None, slice_index_or}
use Rattle.snoop_trace.specs.{Extent.Extent, Asked.step_of, Grammar.{IsStepWithin, word_asked}, declared.step.{Asked.Asked, Row.Row, Step.Step, Work.Work}}
use Rattle.snoop_trace.specs.declared.step.Step.TheVariants.{Ask, Order, Respond}

-- a core's rows that are left, and its work under way, which may be over
pub record Todo : Type 0 where
  pub left : List Work
  pub work : Option Work

-- no rows are left, and no work is under way
abbrev pub nothing_to_do : Todo
nothing_to_do = record { left = []; work = None }

-- what the core has to do: nothing, where there is no such core
abbrev pub todo_of : List Todo → ℕ → Todo
todo_of lanes core = slice_index_or lanes core nothing_to_do

-- the block of a work, if there is one
abbrev pub block_of_work : Option Work → Option ℕ
block_of_work None = None
block_of_work (Some work) = Some work.block

-- the block on which each core has work under way
abbrev pub lanes_under_way : List Todo → ℕ → Option ℕ
lanes_under_way lanes core = block_of_work (todo_of lanes core).work

-- how many rows are left in all
abbrev pub left_in : List Todo → ℕ
left_in lanes = sum_by (λ (todo : Todo). length todo.left) lanes

-- the work that a row asks for
abbrev pub work_of : Extent → Row → Work
work_of shape row = record { block = row.address / shape.block_bytes; word = word_asked shape row.address row.op; op = row.op }

-- the work that a core's rows ask for, in order
abbrev pub works_of : Extent → List Row → ℕ → List Work
works_of shape rows core = map (work_of shape) (filter (λ (row : Row). row.core == core) rows)

-- what the Asks among steps ask for
abbrev pub asked_by : List Step → List Asked
asked_by [] = []
asked_by (Ask core block word asking ∷ steps) = record { core = core; work = record { block = block; word = word; op = asking } } ∷ asked_by steps
asked_by (Order core ∷ steps) = asked_by steps
asked_by (Respond block ∷ steps) = asked_by steps

-- the core, the block and the word that are asked for are there
abbrev pub IsAskedWithin : Extent → Asked → Type 0
IsAskedWithin shape asked = IsStepWithin shape (step_of asked)

-- the works that are asked for
abbrev pub works : List Asked → List Work
works asks = map (λ (asked : Asked). asked.work) asks

-- those of a core, in order
abbrev pub works_by : List Asked → ℕ → List Work
works_by asks core = works (filter (λ (asked : Asked). asked.core == core) asks)
