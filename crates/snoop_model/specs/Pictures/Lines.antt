-- What a cache and memory hold of a block.
-- Source: this project's profile.
use Rattle.std.specs.Prelude.{Option}
use Rattle.snoop_trace.specs.Words.{Data}
use Rattle.snoop_rules.specs.declared.names.{CacheState.CacheState, MemState.MemState}
use Rattle.snoop_model.specs.declared.access.Access.{Access}

-- what a cache holds of a block: its state; the words that loads read, where the state may read; and the load or store that waits
pub record Line : Type 0 where
  pub state : CacheState
  pub kept : Option Data
  pub waiting : Option Access

-- what memory holds of a block
pub record MemLine : Type 0 where
  pub state : MemState
  pub value : Data
