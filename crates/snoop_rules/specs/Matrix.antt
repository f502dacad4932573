-- The text of a table as a matrix: a line for each of the protocol's states, and a field for each of its events.
-- Source: the text's form is this project's profile.
use Rattle.std.specs.{Prelude.{ℕ, Bool, List, [], ◌++◌, codes, filter, is_some}, List.{flat_map, list_any}, Option.option_map_or}
use Rattle.snoop_trace.specs.declared.protocol.Protocol.{Protocol}
use Rattle.snoop_rules.specs.declared.names.{CacheState.CacheState, CacheEvent.CacheEvent, CacheCell.CacheCell, MemState.MemState, MemEvent.MemEvent}
use Rattle.snoop_rules.specs.{declared.{names.MemCell.MemCell, table_text.Which.{Which, TheVariants.{Cache, Memory}}}, Cell.cell_of, MemoryCell.memory_cell_of}
use Rattle.snoop_rules.specs.Names.{state_name, event_name, action_text, memory_state_name, memory_event_name, memory_action_text}
use Rattle.snoop_rules.specs.TableOrder.{cache_states, cache_events, memory_states, memory_events}

-- the cache table has a row for the pair
abbrev pub has_cache_row : Protocol → CacheState → CacheEvent → Bool
has_cache_row protocol state event = is_some (cell_of protocol state event)

-- a state of the protocol's caches: it has a row at some event
unfoldable pub is_cache_state : Protocol → CacheState → Bool
is_cache_state protocol state = list_any (λ event. has_cache_row protocol state event) cache_events

-- an event of the protocol's caches: some state has a row at it
unfoldable pub is_cache_event : Protocol → CacheEvent → Bool
is_cache_event protocol event = list_any (λ state. has_cache_row protocol state event) cache_states

-- the memory table has a row for the pair
abbrev pub has_memory_row : Protocol → MemState → MemEvent → Bool
has_memory_row protocol state event = is_some (memory_cell_of protocol state event)

-- a state of the protocol's memory
unfoldable pub is_memory_state : Protocol → MemState → Bool
is_memory_state protocol state = list_any (λ event. has_memory_row protocol state event) memory_events

-- an event of the protocol's memory
unfoldable pub is_memory_event : Protocol → MemEvent → Bool
is_memory_event protocol event = list_any (λ state. has_memory_row protocol state event) memory_states

-- a field: what is done, and the next state
abbrev pub action_and_next : List ℕ → List ℕ → List ℕ
action_and_next action next = action ++ codes "/" ++ next

-- a pair's field, which is empty where the pair is impossible
abbrev pub cache_field : Protocol → CacheState → CacheEvent → List ℕ
cache_field protocol state event = option_map_or (λ (cell : CacheCell). action_and_next (action_text cell.action) (state_name cell.next)) (cell_of protocol state event) []

-- the same of memory's table
abbrev pub memory_field : Protocol → MemState → MemEvent → List ℕ
memory_field protocol state event = option_map_or (λ (cell : MemCell). action_and_next (memory_action_text cell.action) (memory_state_name cell.next)) (memory_cell_of protocol state event) []

-- a line of fields: what stands first, and then a comma and a field for each event
abbrev pub line_of : {Event : Type 0} → List ℕ → (Event → List ℕ) → List Event → List ℕ
line_of first field events = first ++ flat_map (λ event. codes "," ++ field event) events ++ codes "\n"

-- the cache table as a matrix
unfoldable pub cache_matrix : Protocol → List ℕ
cache_matrix protocol =
    let events : List CacheEvent = filter (is_cache_event protocol) cache_events in
    line_of (codes "state") event_name events
    ++ flat_map (λ state. line_of (state_name state) (cache_field protocol state) events) (filter (is_cache_state protocol) cache_states)

-- the memory table as a matrix
unfoldable pub memory_matrix : Protocol → List ℕ
memory_matrix protocol =
    let events : List MemEvent = filter (is_memory_event protocol) memory_events in
    line_of (codes "state") memory_event_name events
    ++ flat_map (λ state. line_of (memory_state_name state) (memory_field protocol state) events) (filter (is_memory_state protocol) memory_states)

-- the cache table or the memory table as a matrix: a line with the names of the protocol's events, and then a line for each of its states; a field has the action and the next state, and is empty where the pair is impossible
abbrev pub matrix_text : Protocol → Which → List ℕ
matrix_text protocol Cache = cache_matrix protocol
matrix_text protocol Memory = memory_matrix protocol
