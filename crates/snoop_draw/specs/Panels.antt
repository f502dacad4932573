-- Which panels a drawing has, and which columns.
-- Source: this project's profile.
use Rattle.std.specs.Prelude.{ℕ, List, [], ◌∷◌, Option, Some, None, nat_lt, if◌then◌else◌}
use Rattle.std.specs.List.{flat_map, range_with_len}
use Rattle.snoop_trace.specs.{Extent.Extent, declared.step.Step.Step}
use Rattle.snoop_engine.specs.Askers.{askers}

-- what is drawn of a block: a column for each of these cores, the bus, and memory
pub record Panel : Type 0 where
  pub block : ℕ
  pub cores : List ℕ

-- the panel of a block, if it has a column of a core
abbrev pub panel_with : ℕ → List ℕ → List Panel
panel_with block [] = []
panel_with block (core ∷ cores) = record { block = block; cores = core ∷ cores } ∷ []

-- the panel of the block that is chosen, or that of each block that a core asks for, rising
abbrev pub panels_for : Extent → List Step → Option ℕ → List Panel
panels_for shape steps None = flat_map (λ block. panel_with block (askers shape steps block)) (range_with_len 0 shape.blocks)
panels_for shape steps (Some block) = if nat_lt block shape.blocks then record { block = block; cores = askers shape steps block } ∷ [] else []
