-- The picture of a block: what each core, memory and the bus hold of it.
-- Source: "A Primer on Memory Consistency and Cache Coherence", 2nd edition, chapter 7, system model.
use Rattle.std.specs.Prelude.{ℕ, List, Option, None, Some, slice_index_or, slice_set, if◌then◌else◌}
use Rattle.snoop_trace.specs.{Words.Data, declared.protocol.Protocol.{Protocol, TheVariants.{Msi, Mesi}}}
use Rattle.snoop_rules.specs.{declared.names.{CacheState.{CacheState, TheVariants.{I, ImAd, IiA}}, MemState.MemState}, Takers.carries_value}
use Rattle.snoop_rules.specs.declared.names.MemState.TheVariants as mem
use Rattle.snoop_model.specs.Pictures.Lines.{Line, MemLine}
use Rattle.snoop_bus.specs.Traffic.{Open}

-- each core's line, memory's line, and the open transaction, if any
pub record Picture : Type 0 where
  pub caches : List Line
  pub memory : MemLine
  pub transaction : Option Open

-- a block on which no transaction is open
abbrev pub free_picture : List Line → MemLine → Picture
free_picture row memory = record { caches = row; memory = memory; transaction = None }

-- a core that holds nothing of the block
abbrev pub nothing_held : Line
nothing_held = record { state = I; kept = None; waiting = None }

-- what a core holds
abbrev pub held_at : List Line → ℕ → Line
held_at caches core = slice_index_or caches core nothing_held

-- what a core holds of the block
abbrev pub held_by : Picture → ℕ → Line
held_by picture core = held_at picture.caches core

-- the core holds this, and all else is as it was
abbrev pub with_line : Picture → ℕ → Line → Picture
with_line picture core line = record picture { caches = slice_set picture.caches core line }

-- the data under way, if any: the words of the open transaction's message, where it carries them
abbrev pub data_under_way : Option Open → Option Data
data_under_way None = None
data_under_way (Some transaction) = if carries_value transaction.payload then Some transaction.value else None

-- memory's state at reset
abbrev pub first_memory : Protocol → MemState
first_memory Msi = mem.IorS
first_memory Mesi = mem.I

-- what is left of kept words when a state comes: they are dropped in I, IM_AD and II_A
abbrev pub kept_on : CacheState → Option Data → Option Data
kept_on I kept = None
kept_on ImAd kept = None
kept_on IiA kept = None
kept_on _ kept = kept
