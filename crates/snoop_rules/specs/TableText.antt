-- The text of a table: a line for each row, in the order of the states and, within a state, of the events.
-- Source: the line's form is this project's profile.
use Rattle.std.specs.{Prelude.{ℕ, List, [], ◌++◌, codes}, List.flat_map, Option.option_map_or}
use Rattle.snoop_trace.specs.declared.protocol.Protocol.{Protocol}
use Rattle.snoop_rules.specs.declared.names.{CacheState.CacheState, CacheEvent.CacheEvent, CacheCell.CacheCell, MemState.MemState, MemEvent.MemEvent}
use Rattle.snoop_rules.specs.{declared.{names.MemCell.MemCell, table_text.Which.{Which, TheVariants.{Cache, Memory}}}, Cell.cell_of, MemoryCell.memory_cell_of}
use Rattle.snoop_rules.specs.Names.{state_name, event_name, action_text, memory_state_name, memory_event_name, memory_action_text}
use Rattle.snoop_rules.specs.TableOrder.{cache_states, cache_events, memory_states, memory_events}

-- one line: state, event, action, next state
abbrev pub row_line : List ℕ → List ℕ → List ℕ → List ℕ → List ℕ
row_line state event action next = state ++ codes "," ++ event ++ codes "," ++ action ++ codes "," ++ next ++ codes "\n"

-- the line of a row of the cache table
abbrev pub cache_line : CacheState → CacheEvent → CacheCell → List ℕ
cache_line state event cell = row_line (state_name state) (event_name event) (action_text cell.action) (state_name cell.next)

-- the line of a row of the memory table
abbrev pub memory_line : MemState → MemEvent → MemCell → List ℕ
memory_line state event cell = row_line (memory_state_name state) (memory_event_name event) (memory_action_text cell.action) (memory_state_name cell.next)

-- a pair's line where it has a row, and nothing where it is impossible
abbrev pub cache_line_at : Protocol → CacheState → CacheEvent → List ℕ
cache_line_at protocol state event = option_map_or (cache_line state event) (cell_of protocol state event) []

-- the same of memory's table
abbrev pub memory_line_at : Protocol → MemState → MemEvent → List ℕ
memory_line_at protocol state event = option_map_or (memory_line state event) (memory_cell_of protocol state event) []

-- the cache table
unfoldable pub cache_text : Protocol → List ℕ
cache_text protocol = flat_map (λ state. flat_map (cache_line_at protocol state) cache_events) cache_states

-- the memory table
unfoldable pub memory_text : Protocol → List ℕ
memory_text protocol = flat_map (λ state. flat_map (memory_line_at protocol state) memory_events) memory_states

-- the cache table or the memory table as a text: a line for each pair that is not impossible, with the names of the state and the event, the action, and the next state
abbrev pub table_text : Protocol → Which → List ℕ
table_text protocol Cache = cache_text protocol
table_text protocol Memory = memory_text protocol
