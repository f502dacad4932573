-- What memory holds of each block.
-- Source: this project's profile.
use Rattle.std.specs.Prelude.{ℕ, List, slice_index_or}
use Rattle.snoop_trace.specs.Words.{Data, zero_words}
use Rattle.snoop_rules.specs.declared.names.MemState.{MemState, TheVariants.IorS}
use Rattle.snoop_model.specs.Pictures.Lines.{MemLine}

-- memory's state and words, by block
pub record MemTables : Type 0 where
  pub states : List MemState
  pub words : List Data

-- memory's line of a block
abbrev pub memory_line : MemTables → ℕ → MemLine
memory_line memory block = record { state = slice_index_or memory.states block IorS; value = slice_index_or memory.words block zero_words }
