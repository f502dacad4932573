-- The cores that ask for a block in some steps.
-- Source: this project's profile.
use Rattle.std.specs.Prelude.{◌≡◌, ◌<◌, ◌==◌, ◌&&◌, ℕ, Bool, false, List, filter, length, map}
use Rattle.std.specs.List.{list_any, range_with_len}
use Rattle.snoop_trace.specs.{Extent.Extent, declared.step.Step.{Step, TheVariants.Ask}}
use Rattle.snoop_blocks.specs.CoreSet.{has, set_of}

-- in this step the core asks for the block
abbrev pub asks_for : ℕ → ℕ → Step → Bool
asks_for block core (Ask asker asked word op) = (asked == block) && (asker == core)
asks_for block core _ = false

-- the core asks for the block in one of the steps
abbrev pub is_asker : List Step → ℕ → ℕ → Bool
is_asker steps block core = list_any (asks_for block core) steps

-- the cores of the shape that ask for the block in one of the steps, by rising number
abbrev pub askers : Extent → List Step → ℕ → List ℕ
askers shape steps block = filter (is_asker steps block) (range_with_len 0 shape.cores)

-- for each block of the shape the cores that ask for it in one of the steps, by rising number
abbrev pub all_askers : Extent → List Step → List (List ℕ)
all_askers shape steps = map (askers shape steps) (range_with_len 0 shape.blocks)

-- of so many cores those in the set, by rising number
abbrev pub cores_in : ℕ → List ℕ → List ℕ
cores_in cores set = filter (has set) (range_with_len 0 cores)

-- there is a set for each block of the shape; of the shape's cores it has exactly those that pass the test for the block
pub record AreSetsBy (shape : Extent) (test : ℕ → ℕ → Bool) (sets : List (List ℕ)) : Type 0 where
  pub count : length sets ≡ shape.blocks
  pub each : (block core : ℕ) → block < shape.blocks → core < shape.cores → has (set_of sets block) core ≡ test block core
