-- The columns of a block's table.
-- Source: this project's profile.
use Rattle.std.specs.{Prelude.{ℕ, ◌+◌, List, [], ◌∷◌, ◌++◌, codes, map, slice_index_or}, Fmt.decimal}
use Rattle.snoop_trace.specs.{Extent.Extent, declared.step.Step.Step}
use Rattle.snoop_engine.specs.Askers.{all_askers}
use Rattle.snoop_states.specs.declared.{column.Column.{Column, TheVariants.{Core, Bus, Memory}}, widths.Widths.Widths}

-- a column for each of these cores, then the bus and memory
abbrev pub columns_for : List ℕ → List Column
columns_for cores = map Core cores ++ Bus ∷ Memory ∷ []

-- the columns of a block's table, by the cores that ask for each block
abbrev pub columns_in : List (List ℕ) → ℕ → List Column
columns_in askers block = columns_for (slice_index_or askers block [])

-- the columns of a block's table: each core that asks for it in one of the steps, the bus and memory
abbrev pub columns_of : Extent → List Step → ℕ → List Column
columns_of shape steps = columns_in (all_askers shape steps)

-- the name of a column
abbrev pub column_name : Column → List ℕ
column_name (Core core) = codes "core " ++ decimal core
column_name Bus = codes "bus"
column_name Memory = codes "memory"

-- how wide a column is
abbrev pub width_of : Widths → Column → ℕ
width_of widths (Core core) = 12 + widths.values
width_of widths Bus = 18 + widths.values
width_of widths Memory = 10 + widths.values
