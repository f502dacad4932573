-- What the states, events, requests, payloads and actions are called where they are printed.
-- Source: "A Primer on Memory Consistency and Cache Coherence", 2nd edition, chapter 7; EI_A, NoDataE and MESI's memory states are this project's profile.
use Rattle.std.specs.Prelude.{ℕ, List, ◌++◌, codes}
use Rattle.snoop_rules.specs.declared.names.{CacheState.CacheState, CacheEvent.CacheEvent, MemState.MemState, MemEvent.MemEvent, Request.Request, Target.Target}
use Rattle.snoop_rules.specs.declared.names.{Payload.Payload, CacheAction.CacheAction, MemAction.MemAction}
use Rattle.snoop_rules.specs.declared.names.CacheState.TheVariants as state
use Rattle.snoop_rules.specs.declared.names.CacheEvent.TheVariants as event
use Rattle.snoop_rules.specs.declared.names.MemState.TheVariants as mem_state
use Rattle.snoop_rules.specs.declared.names.MemEvent.TheVariants as mem_event
use Rattle.snoop_rules.specs.declared.names.Request.TheVariants as request
use Rattle.snoop_rules.specs.declared.names.Payload.TheVariants as payload
use Rattle.snoop_rules.specs.declared.names.Target.TheVariants as target
use Rattle.snoop_rules.specs.declared.names.CacheAction.TheVariants as action
use Rattle.snoop_rules.specs.declared.names.MemAction.TheVariants as mem_action

-- the name that texts have for a state of a cache line, such as `IM_AD`
abbrev pub state_name : CacheState → List ℕ
state_name state.I = codes "I"
state_name state.IsAd = codes "IS_AD"
state_name state.IsD = codes "IS_D"
state_name state.ImAd = codes "IM_AD"
state_name state.ImD = codes "IM_D"
state_name state.S = codes "S"
state_name state.SmAd = codes "SM_AD"
state_name state.SmD = codes "SM_D"
state_name state.E = codes "E"
state_name state.M = codes "M"
state_name state.EiA = codes "EI_A"
state_name state.MiA = codes "MI_A"
state_name state.IiA = codes "II_A"

-- the name that texts have for an event at a cache controller, such as `OwnGetS`
abbrev pub event_name : CacheEvent → List ℕ
event_name event.Load = codes "Load"
event_name event.Store = codes "Store"
event_name event.Evict = codes "Evict"
event_name event.OwnGetS = codes "OwnGetS"
event_name event.OwnGetM = codes "OwnGetM"
event_name event.OwnPutM = codes "OwnPutM"
event_name event.OtherGetS = codes "OtherGetS"
event_name event.OtherGetM = codes "OtherGetM"
event_name event.OtherPutM = codes "OtherPutM"
event_name event.Data = codes "Data"
event_name event.DataE = codes "DataE"

-- the name that texts have for a state of a block at memory, such as `IorS_D`
abbrev pub memory_state_name : MemState → List ℕ
memory_state_name mem_state.IorS = codes "IorS"
memory_state_name mem_state.M = codes "M"
memory_state_name mem_state.IorSD = codes "IorS_D"
memory_state_name mem_state.MD = codes "M_D"
memory_state_name mem_state.I = codes "I"
memory_state_name mem_state.S = codes "S"
memory_state_name mem_state.EorM = codes "EorM"
memory_state_name mem_state.ID = codes "I_D"
memory_state_name mem_state.SD = codes "S_D"
memory_state_name mem_state.EorMD = codes "EorM_D"

-- the name that texts have for an event at the memory controller, such as `NoDataE`
abbrev pub memory_event_name : MemEvent → List ℕ
memory_event_name mem_event.GetS = codes "GetS"
memory_event_name mem_event.GetM = codes "GetM"
memory_event_name mem_event.PutM = codes "PutM"
memory_event_name mem_event.Data = codes "Data"
memory_event_name mem_event.NoData = codes "NoData"
memory_event_name mem_event.NoDataE = codes "NoDataE"

-- the name that texts have for a request: `GetS`, `GetM` or `PutM`
abbrev pub request_name : Request → List ℕ
request_name request.GetS = codes "GetS"
request_name request.GetM = codes "GetM"
request_name request.PutM = codes "PutM"

-- the name that texts have for what a message carries, such as `DataE`
abbrev pub payload_name : Payload → List ℕ
payload_name payload.Data = codes "Data"
payload_name payload.DataE = codes "DataE"
payload_name payload.NoData = codes "NoData"
payload_name payload.NoDataE = codes "NoDataE"

-- the words that texts have for those to whom a cache's message goes: the requestor, memory, or both
abbrev pub target_name : Target → List ℕ
target_name target.Requestor = codes "requestor"
target_name target.Memory = codes "memory"
target_name target.Both = codes "requestor and memory"

-- the words that texts have for what a cache controller does, such as `issue GetM`
abbrev pub action_text : CacheAction → List ℕ
action_text action.None = codes "none"
action_text action.Hit = codes "hit"
action_text action.Stall = codes "stall"
action_text (action.Issue request) = codes "issue " ++ request_name request
action_text action.Drop = codes "drop"
action_text action.FillLoad = codes "fill load"
action_text action.FillStore = codes "fill store"
action_text (action.Send payload target) = payload_name payload ++ codes " to " ++ target_name target

-- the words that texts have for what the memory controller does, such as `send Data`
abbrev pub memory_action_text : MemAction → List ℕ
memory_action_text mem_action.None = codes "none"
memory_action_text (mem_action.Send payload) = codes "send " ++ payload_name payload
memory_action_text mem_action.Write = codes "write"
