-- Counters of the rows of the tables, and the lines that they have counted.
-- Source: this project's profile.
use Rattle.std.specs.Prelude.{◌≡◌, ℕ, ◌+◌, ◌*◌, List, length, get_or}
use Rattle.snoop_rules.specs.declared.names.{CacheEvent.CacheEvent, CacheState.CacheState, MemEvent.MemEvent, MemState.MemState}
use Rattle.snoop_history.specs.Totals.{capped}
use Rattle.snoop_engine.specs.{Counts.{memory_times, times}, Numbers.{event_number, memory_event_number, memory_state_number, state_number}}
use Rattle.snoop_engine.specs.declared.taken.Taken.{Taken}

-- the place of a row of the cache table among the counters
abbrev pub core_place : CacheState → CacheEvent → ℕ
core_place state event = state_number state * 11 + event_number event

-- the place of a row of the memory table, after all of the cache table
abbrev pub memory_place : MemState → MemEvent → ℕ
memory_place state event = 143 + memory_state_number state * 6 + memory_event_number event

-- what the counters have of each row of the cache table
abbrev pub counts_in : List ℕ → CacheState → CacheEvent → ℕ
counts_in counters state event = get_or counters (core_place state event) 0

-- what they have of each row of the memory table
abbrev pub memory_counts_in : List ℕ → MemState → MemEvent → ℕ
memory_counts_in counters state event = get_or counters (memory_place state event) 0

-- the counters say how often each row is taken in the lines
pub record Tallies (counters : List ℕ) (lines : List Taken) : Type 0 where
  pub long : length counters ≡ 203
  pub cores : (state : CacheState) (event : CacheEvent) → counts_in counters state event ≡ capped (times lines state event)
  pub memory : (state : MemState) (event : MemEvent) → memory_counts_in counters state event ≡ capped (memory_times lines state event)
