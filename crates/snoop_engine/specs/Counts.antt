-- How often each row of the tables is taken in a run, as a text of fields.
-- Source: the fields and their form are this project's profile.
use Rattle.std.specs.{Prelude.{ℕ, ◌==◌, ◌&&◌, Bool, true, false, List, [], ◌++◌, codes, filter, length, Some, None, if◌then◌else◌}, Fmt.decimal, List.flat_map}
use Rattle.std.specs.Option.{option_map_or}
use Rattle.snoop_trace.specs.declared.protocol.Protocol.{Protocol}
use Rattle.snoop_rules.specs.declared.names.{CacheCell.CacheCell, CacheEvent.{CacheEvent, TheVariants.{OtherGetS, OtherGetM, OtherPutM}}, CacheState.CacheState}
use Rattle.snoop_rules.specs.{declared.names.{CacheState.TheVariants.I, MemCell.MemCell, MemEvent.MemEvent, MemState.MemState}, Cell.cell_of}
use Rattle.snoop_rules.specs.{MemoryCell.memory_cell_of, Names.{action_text, event_name, memory_action_text, memory_event_name, memory_state_name, state_name}}
use Rattle.snoop_rules.specs.TableOrder.{cache_events, cache_states, memory_events, memory_states}
use Rattle.snoop_history.specs.Totals.{capped}
use Rattle.snoop_engine.specs.{Frames.Frame, Numbers.{event_number, memory_event_number, memory_state_number, state_number}, Taken.lines_of_step}
use Rattle.snoop_engine.specs.declared.taken.Taken.{Taken, TheVariants.{Core, Memory, Nobody}}

-- in this line a core takes the row of the state and the event
abbrev pub takes_row : CacheState → CacheEvent → Taken → Bool
takes_row state event (Core core block (Some met) before) = state_number before == state_number state && event_number met == event_number event
takes_row state event (Core core block None before) = false
takes_row state event (Memory block met before) = false
takes_row state event (Nobody core block) = false

-- in this line memory takes the row of the state and the event
abbrev pub takes_memory_row : MemState → MemEvent → Taken → Bool
takes_memory_row state event (Memory block met before) =
    memory_state_number before == memory_state_number state && memory_event_number met == memory_event_number event
takes_memory_row state event (Core core block met before) = false
takes_memory_row state event (Nobody core block) = false

-- how often cores take the row
abbrev pub times : List Taken → CacheState → CacheEvent → ℕ
times lines state event = length (filter (takes_row state event) lines)

-- how often memory takes the row
abbrev pub memory_times : List Taken → MemState → MemEvent → ℕ
memory_times lines state event = length (filter (takes_memory_row state event) lines)

-- the fields of a row between two others
abbrev pub row_fields : List ℕ → List ℕ → List ℕ → List ℕ → List ℕ
row_fields state event action next = codes "," ++ state ++ codes "," ++ event ++ codes "," ++ action ++ codes "," ++ next ++ codes ","

-- a line: whose row it is, its state, event, action and next state, and its count
abbrev pub count_line : List ℕ → List ℕ → List ℕ → List ℕ → List ℕ → ℕ → List ℕ
count_line controller state event action next count = controller ++ row_fields state event action next ++ decimal count ++ codes "\n"

-- the line of a row of the cache table
abbrev pub cache_count : CacheState → CacheEvent → CacheCell → ℕ → List ℕ
cache_count state event cell count = count_line (codes "cache") (state_name state) (event_name event) (action_text cell.action) (state_name cell.next) count

-- the line of a row of the memory table
abbrev pub memory_count : MemState → MemEvent → MemCell → ℕ → List ℕ
memory_count state event cell count =
    count_line (codes "memory") (memory_state_name state) (memory_event_name event) (memory_action_text cell.action) (memory_state_name cell.next) count

-- a core in I does nothing at another's request
abbrev pub does_nothing : CacheState → CacheEvent → Bool
does_nothing I OtherGetS = true
does_nothing I OtherGetM = true
does_nothing I OtherPutM = true
does_nothing _ _ = false

-- a pair's line, where it has a row; none for a core in I at another's request
abbrev pub cache_count_at : Protocol → (CacheState → CacheEvent → ℕ) → CacheState → CacheEvent → List ℕ
cache_count_at protocol counts state event =
    if does_nothing state event then [] else option_map_or (λ cell. cache_count state event cell (counts state event)) (cell_of protocol state event) []

-- a pair's line in memory's table, where it has a row
abbrev pub memory_count_at : Protocol → (MemState → MemEvent → ℕ) → MemState → MemEvent → List ℕ
memory_count_at protocol counts state event = option_map_or (λ cell. memory_count state event cell (counts state event)) (memory_cell_of protocol state event) []

-- the lines of the cache table
unfoldable pub cache_counts : Protocol → (CacheState → CacheEvent → ℕ) → List ℕ
cache_counts protocol counts = flat_map (λ state. flat_map (cache_count_at protocol counts state) cache_events) cache_states

-- the lines of the memory table
unfoldable pub memory_counts : Protocol → (MemState → MemEvent → ℕ) → List ℕ
memory_counts protocol counts = flat_map (λ state. flat_map (memory_count_at protocol counts state) memory_events) memory_states

-- the names of the fields
abbrev pub counts_header : List ℕ
counts_header = codes "controller,state,event,action,next,count\n"

-- the whole text of some counts
abbrev pub counts_text : Protocol → (CacheState → CacheEvent → ℕ) → (MemState → MemEvent → ℕ) → List ℕ
counts_text protocol counts of_memory = counts_header ++ cache_counts protocol counts ++ memory_counts protocol of_memory

-- the lines of frames
abbrev pub all_lines : List Frame → List Taken
all_lines frames = flat_map (λ frame. lines_of_step frame.before frame.step frame.outcome) frames

-- the text of how often each row of the tables is taken in the frames, without the rows of a core in I at another's request, which do nothing; a count stops at the largest u64
abbrev pub frames_counts_text : Protocol → List Frame → List ℕ
frames_counts_text protocol frames =
    counts_text protocol (λ state event. capped (times (all_lines frames) state event)) (λ state event. capped (memory_times (all_lines frames) state event))
