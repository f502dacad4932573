-- The states and the events by their numbers, in the order of the tables.
-- Source: the order is this project's profile.
use Rattle.std.specs.Prelude.{ℕ}
use Rattle.snoop_rules.specs.declared.names.{CacheState.CacheState, CacheEvent.CacheEvent, MemState.MemState, MemEvent.MemEvent}
use Rattle.snoop_rules.specs.declared.names.CacheState.TheVariants as state
use Rattle.snoop_rules.specs.declared.names.CacheEvent.TheVariants as event
use Rattle.snoop_rules.specs.declared.names.MemState.TheVariants as mem_state
use Rattle.snoop_rules.specs.declared.names.MemEvent.TheVariants as mem_event

-- the number of a state of a cache line, from 0
abbrev pub state_number : CacheState → ℕ
state_number state.I = 0
state_number state.IsAd = 1
state_number state.IsD = 2
state_number state.ImAd = 3
state_number state.ImD = 4
state_number state.S = 5
state_number state.SmAd = 6
state_number state.SmD = 7
state_number state.E = 8
state_number state.M = 9
state_number state.EiA = 10
state_number state.MiA = 11
state_number state.IiA = 12

-- the number of an event at a cache controller, from 0
abbrev pub event_number : CacheEvent → ℕ
event_number event.Load = 0
event_number event.Store = 1
event_number event.Evict = 2
event_number event.OwnGetS = 3
event_number event.OwnGetM = 4
event_number event.OwnPutM = 5
event_number event.OtherGetS = 6
event_number event.OtherGetM = 7
event_number event.OtherPutM = 8
event_number event.Data = 9
event_number event.DataE = 10

-- the number of a state of a block at memory, from 0
abbrev pub memory_state_number : MemState → ℕ
memory_state_number mem_state.IorS = 0
memory_state_number mem_state.M = 1
memory_state_number mem_state.IorSD = 2
memory_state_number mem_state.MD = 3
memory_state_number mem_state.I = 4
memory_state_number mem_state.S = 5
memory_state_number mem_state.EorM = 6
memory_state_number mem_state.ID = 7
memory_state_number mem_state.SD = 8
memory_state_number mem_state.EorMD = 9

-- the number of an event at the memory controller, from 0
abbrev pub memory_event_number : MemEvent → ℕ
memory_event_number mem_event.GetS = 0
memory_event_number mem_event.GetM = 1
memory_event_number mem_event.PutM = 2
memory_event_number mem_event.Data = 3
memory_event_number mem_event.NoData = 4
memory_event_number mem_event.NoDataE = 5
