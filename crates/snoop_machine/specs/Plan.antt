-- What a step will do, found before anything changes: a plan, the room that it needs, and the item that it adds.
-- Source: this project's profile.
use Rattle.std.specs.{Prelude.{◌≡◌, ◌≢◌, ℕ, ◌<◌, true, false, List, length, Option, Some, None, IfSome, option_map, slice_index, ⊤}, Option.ForSome}
use Rattle.snoop_trace.specs.{Words.{HasWord, IsWord}, declared.step.{Op.Op, Step.Step}}
use Rattle.snoop_trace.specs.declared.step.Step.TheVariants as step
use Rattle.snoop_rules.specs.declared.names.{MemState.MemState, MemCell.MemCell, Payload.Payload, Request.{Request, TheVariants.PutM}}
use Rattle.snoop_rules.specs.Takers.{at_memory, seen_by}
use Rattle.snoop_history.specs.declared.items.{Came.Came, Did.Did, Item.Item}
use Rattle.snoop_history.specs.declared.items.Item.TheVariants as item
use Rattle.snoop_machine.specs.declared.parts.step.{Asked.{Asked, TheVariants.{Absent, Hit, Issue, Drop}}, Plan.{Plan, TheVariants.{Ask, Order, Respond}}, Filled.Filled}
use Rattle.snoop_machine.specs.{Standing.{Standing, has_line}, Prepared.room_to_issue, Cache.filled_line, Asked.TakesAsk}
use Rattle.snoop_model.specs.Pictures.{Situation.{Situation, picture_of, held_of, state_of, IsHead}, Sends.IsOnlySender, Proper.IsProper}
use Rattle.snoop_model.specs.Moves.{LookUps.HasRow, Move.{Fills, Settles, IsWithin, TakesMemRow, came_of, next_did}}

-- the step that a plan is for
abbrev pub planned_step : Plan → Step
planned_step (Ask core block word asking asked) = step.Ask core block word asking
planned_step (Order core request block from payload memory) = step.Order core
planned_step (Respond came memory filled) = step.Respond came.block

-- the core's oldest request can be ordered: each core has a row for it, it has this sender and payload, and leads memory to this state
pub record CanBeOrdered (s : Situation) (core : ℕ) (request : Request) (block : ℕ) (from : Option ℕ) (payload : Payload) (memory : MemState) : Type 0 where
  pub head : IsHead s core request block
  pub free : (picture_of s block).transaction ≡ None
  pub memory_row : TakesMemRow s.protocol (at_memory request) (picture_of s block).memory.state memory
  pub rows : (k : ℕ) → k < length (picture_of s block).caches → HasRow s.protocol (state_of s k block) (seen_by k core request)
  pub sender : IsOnlySender s.protocol (picture_of s block) core request from payload

-- the block's open transaction brings this response, and memory does this with it and moves to this state
pub record IsClosing (s : Situation) (came : Came) (memory : MemCell) : Type 0 where
  pub opened : option_map came_of (picture_of s came.block).transaction ≡ Some came
  pub core : came.core < s.shape.cores
  pub sender : ForSome came.from (λ sender. sender < s.shape.cores)
  pub settles : Settles s.protocol came.request came.payload (picture_of s came.block).memory.state memory.action memory.next

-- at a PutM the response fills no line, and at a GetS or GetM its requestor's, as its row says
abbrev pub BringsFill : Situation → Came → Option Filled → Type 0
BringsFill s came None = came.request ≡ PutM
BringsFill s came (Some filled) =
    (came.request ≢ PutM)
    × IfSome (picture_of s came.block).transaction (λ closing. Fills closing s.protocol (held_of s closing.core came.block) (filled_line filled.next filled.access closing.value) filled.access filled.value)
    × IsWord s.shape filled.access.word

-- the rows were found for what the plan says
abbrev pub IsPlan : Situation → Plan → Type 0
IsPlan s (Ask core block word asking asked) = IsWithin s core block × TakesAsk s.protocol (held_of s core block) word asking asked × IsProper (held_of s core block) × HasWord s.shape word asking
IsPlan s (Order core request block from payload memory) = (core < s.shape.cores) × CanBeOrdered s core request block from payload memory
IsPlan s (Respond came memory filled) = (came.block < s.shape.blocks) × IsClosing s came memory × BringsFill s came filled

-- a plan for this step
abbrev pub IsPlanFor : Situation → Step → Plan → Type 0
IsPlanFor s taking plan = (planned_step plan ≡ taking) × IsPlan s plan

-- for how many more such Asks of the core for the block there is room; one that adds neither item nor request always has it
abbrev pub room_for_ask : Standing → ℕ → ℕ → Asked → ℕ
room_for_ask before core block Absent = 1
room_for_ask before core block (Hit next value) = before.room
room_for_ask before core block (Issue request next) = room_to_issue before core block
room_for_ask before core block (Drop next) = 1

-- there is room for what such an Ask of the core adds; and where it issues a request, there is the line that will wait for it
abbrev pub HasRoomToAsk : Standing → ℕ → ℕ → Asked → Type 0
HasRoomToAsk before core block Absent = ⊤
HasRoomToAsk before core block (Hit next value) = 0 < before.room
HasRoomToAsk before core block (Issue request next) = (has_line before core block ≡ true) × (0 < slice_index before.request_rooms core)
HasRoomToAsk before core block (Drop next) = ⊤

-- for how many more such steps there is room
abbrev pub room_for : Standing → Plan → ℕ
room_for before (Ask core block word asking asked) = room_for_ask before core block asked
room_for before _ = before.room

-- there is room for what the planned step adds
abbrev pub HasRoom : Standing → Plan → Type 0
HasRoom before (Ask core block word asking asked) = HasRoomToAsk before core block asked
HasRoom before _ = 0 < before.room

-- the item that an Ask adds: a hit is performed at once
abbrev pub entry_of_ask : List Item → ℕ → ℕ → ℕ → Op → Asked → Option Item
entry_of_ask log core block word asking Absent = None
entry_of_ask log core block word asking (Hit next value) = Some (item.Did (next_did log core block word asking value true))
entry_of_ask log core block word asking (Issue request next) = None
entry_of_ask log core block word asking (Drop next) = None

-- the operation that the requestor performs with the data, if data came
abbrev pub did_of : List Item → Came → Option Filled → Option Did
did_of log came None = None
did_of log came (Some filled) = Some (next_did log came.core came.block filled.access.word filled.access.op filled.value false)

-- the item that a planned step adds, if any
abbrev pub entry_of : List Item → Plan → Option Item
entry_of log (Ask core block word asking asked) = entry_of_ask log core block word asking asked
entry_of log (Order core request block from payload memory) = Some (item.Sent (record { core = core; request = request; block = block }))
entry_of log (Respond came memory filled) = Some (item.Came came (did_of log came filled))
