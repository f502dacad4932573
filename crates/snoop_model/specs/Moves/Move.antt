-- The moves of the machine.
-- Source: "A Primer on Memory Consistency and Cache Coherence", 2nd edition, chapter 7: atomic transactions, each controller taking its row of the tables; replies and items are this project's profile.
use Rattle.std.specs.Prelude.{◌≡◌, ℕ, ◌<◌, Bool, true, false, List, [], ◌∷◌, ◌++◌, length, Option, Some, None, option_to_list, slice_set, MatchBool, IsSomeAnd, ◌⊎◌, ⊤, if◌then◌else◌}
use Rattle.snoop_trace.specs.{Words.{Data, HasWord, word_at}, declared.step.{Op.Op, Step.{Step, TheVariants.{Ask, Order, Respond}}}}
use Rattle.snoop_trace.specs.declared.step.Op.TheVariants as op
use Rattle.snoop_trace.specs.declared.protocol.Protocol.{Protocol}
use Rattle.snoop_rules.specs.declared.names.{CacheState.CacheState, CacheEvent.CacheEvent, CacheAction.CacheAction, MemEvent.MemEvent, MemState.MemState}
use Rattle.snoop_rules.specs.declared.names.CacheState.TheVariants as state
use Rattle.snoop_rules.specs.declared.names.CacheAction.TheVariants as action
use Rattle.snoop_rules.specs.declared.names.{MemAction.MemAction, Request.{Request, TheVariants.PutM}, Payload.Payload, CacheCell.CacheCell, MemCell.MemCell}
use Rattle.snoop_rules.specs.declared.names.MemAction.TheVariants as mem_action
use Rattle.snoop_rules.specs.{Cell.cell_of, MemoryCell.{MemoryCell, memory_cell_of}}
use Rattle.snoop_rules.specs.Takers.{asked, seen_by, at_memory, arrival, arrival_at_memory, takes_payload}
use Rattle.snoop_history.specs.{declared.items.{Did.Did, Came.Came, Item.Item}, History.next_number}
use Rattle.snoop_history.specs.declared.items.Item.TheVariants as item
use Rattle.snoop_bus.specs.{Traffic.Open, Queues.{after_issue, after_order}}
use Rattle.snoop_model.specs.{declared.replies.Reply.Reply, Pictures.{Picture.{Picture, held_at, with_line, kept_on}, Lines.{Line, MemLine}}}
use Rattle.snoop_model.specs.declared.replies.Reply.TheVariants as reply
use Rattle.snoop_model.specs.{Pictures.Situation.{Situation, picture_of, held_of, with_picture, state_of, CanOrder, StandsFirst}, declared.access.Access.Access}
use Rattle.snoop_model.specs.Pictures.Sends.{IsOnlySender, value_sent}

-- an operation on one word of a block: the value that it loads or stores, and the block's words after it; a store keeps the other words
abbrev pub Performs : ℕ → Op → Data → ℕ → Data → Type 0
Performs word op.Load before value after = (value ≡ word_at before word) × (after ≡ before)
Performs word (op.Store stored) before value after = (value ≡ stored) × (after ≡ slice_set before word stored)
Performs word op.Evict before value after = ⊥

-- the operation is a load
abbrev pub is_load : Op → Bool
is_load op.Load = true
is_load _ = false

-- an operation on this word as an access; an eviction is none
abbrev pub as_access : ℕ → Op → Option Access
as_access word op.Evict = None
as_access word asking = Some (record { word = word; op = asking })

-- the core's next operation in the log, as it is performed
abbrev pub next_did : List Item → ℕ → ℕ → ℕ → Op → ℕ → Bool → Did
next_did log core block word op value hit = record { core = core; number = next_number log core; block = block; word = word; load = is_load op; value = value; hit = hit }

-- a core that moves to a state with nothing performed
abbrev pub moves_to : CacheState → Line → Line
moves_to next held = record { state = next; kept = kept_on next held.kept; waiting = held.waiting }

-- what a hit leaves in a line: the operation is performed on the kept words
pub record Hits (next : CacheState) (old new : Line) (word : ℕ) (asking : Op) (value : ℕ) : Type 0 where
  pub before : Data
  pub after : Data
  pub kept : old.kept ≡ Some before
  pub performed : Performs word asking before value after
  pub held : new ≡ record { state = next; kept = Some after; waiting = old.waiting }

-- a core moves to the next state of its row for a request, its own or another's
abbrev pub TakesRow : Protocol → CacheEvent → Line → Line → Type 0
TakesRow protocol event old new = (row : CacheCell) × (cell_of protocol old.state event ≡ Some row) × (new ≡ moves_to row.next old)

-- each core takes its row for the request
pub record TakesRows (protocol : Protocol) (core : ℕ) (request : Request) (old new : List Line) : Type 0 where
  pub same_length : length new ≡ length old
  pub rows : (k : ℕ) → k < length old → TakesRow protocol (seen_by k core request) (held_at old k) (held_at new k)

-- memory moves to the next state of its row for an event
abbrev pub TakesMemRow : Protocol → MemEvent → MemState → MemState → Type 0
TakesMemRow protocol event old new = (row : MemCell) × (memory_cell_of protocol old event ≡ Some row) × (new ≡ row.next)

-- the data reaches the requestor's line, whose row is a fill for the operation that waits there, and this is performed with it
pub record Fills (closing : Open) (protocol : Protocol) (old new : Line) (asking : Access) (value : ℕ) : Type 0 where
  pub event : CacheEvent
  pub row : CacheCell
  pub after : Data
  pub arrives : arrival closing.payload ≡ Some event
  pub is_row : cell_of protocol old.state event ≡ Some row
  pub waited : old.waiting ≡ Some asking
  pub fill : row.action ≡ (if is_load asking.op then action.FillLoad else action.FillStore)
  pub performed : Performs asking.word asking.op closing.value value after
  pub held : new ≡ record { state = row.next; kept = Some after; waiting = None }

-- the same, on the requestor's line among all lines, and the operation as the history will have it
pub record FillsRequestor (closing : Open) (protocol : Protocol) (log : List Item) (old new : List Line) (did : Option Did) : Type 0 where
  pub line : Line
  pub asking : Access
  pub value : ℕ
  pub fills : Fills closing protocol (held_at old closing.core) line asking value
  pub held : new ≡ slice_set old closing.core line
  pub logged : did ≡ Some (next_did log closing.core closing.block asking.word asking.op value false)

-- what a response brings to the caches: nothing at a PutM
abbrev pub ArrivesFor : Request → Open → Protocol → List Item → List Line → List Line → Option Did → Type 0
ArrivesFor PutM closing protocol log old new did = (new ≡ old) × (did ≡ None)
ArrivesFor _ closing protocol log old new did = FillsRequestor closing protocol log old new did

-- memory's words after an action: a write takes the data's
abbrev pub written : MemAction → Data → Data → Data
written mem_action.Write value before = value
written _ value before = before

-- what memory does with the message of a request's transaction, and its next state: it takes that of a PutM, and another's where it waits for one; else it does nothing and stays
abbrev pub Settles : Protocol → Request → Payload → MemState → MemAction → MemState → Type 0
Settles protocol request payload old act new =
    MatchBool (takes_payload request old)
    (IsSomeAnd (arrival_at_memory payload) (λ event. MemoryCell protocol old event act new))
    ((act ≡ mem_action.None) × (new ≡ old))

-- what the response of this transaction brings to memory's line
pub record ArrivesAtMemory (closing : Open) (protocol : Protocol) (old new : MemLine) : Type 0 where
  pub act : MemAction
  pub settled : Settles protocol closing.request closing.payload old.state act new.state
  pub value : new.value ≡ written act closing.value old.value

-- the response, as the log has it
abbrev pub came_of : Open → Came
came_of closing = record { core = closing.core; request = closing.request; block = closing.block; from = closing.from; payload = closing.payload }

-- core and block are within the shape
abbrev pub IsWithin : Situation → ℕ → ℕ → Type 0
IsWithin s core block = (core < s.shape.cores) × (block < s.shape.blocks)

-- an Evict in I: answered Absent, and nothing changes
abbrev pub IsAbsent : Situation → ℕ → ℕ → Op → Reply → Situation → Type 0
IsAbsent old core block asking answer new =
    (asking ≡ op.Evict) × (state_of old core block ≡ state.I) × (answer ≡ reply.Absent) × (new ≡ old)

-- what one core holds after an Ask by this row, what is replied, and the item that the log has more, if any; no other action answers an Ask with a move
abbrev pub Takes : CacheAction → CacheState → List Item → ℕ → ℕ → ℕ → Op → Line → Line → Reply → Option Item → Type 0
Takes action.Hit next log core block word asking old new answer entry =
    (value : ℕ) × (Hits next old new word asking value × (answer ≡ (if is_load asking then reply.Hit value else reply.StoreHit))
    × (entry ≡ Some (item.Did (next_did log core block word asking value true))))
Takes (action.Issue request) next log core block word asking old new answer entry =
    (new ≡ record (moves_to next old) { waiting = as_access word asking }) × (answer ≡ reply.Issued request) × (entry ≡ None)
Takes action.Drop next log core block word asking old new answer entry =
    (new ≡ moves_to next old) × (answer ≡ reply.Gone) × (entry ≡ None)
Takes _ next log core block word asking old new answer entry = ⊥

-- the queues after an Ask: an issue puts the block last
abbrev pub queues_after : CacheAction → List (List ℕ) → ℕ → ℕ → List (List ℕ)
queues_after (action.Issue request) queues core block = after_issue queues core block
queues_after _ queues core block = queues

-- an Ask that takes a row: that one core takes it
pub record Asks (old : Situation) (core block word : ℕ) (asking : Op) (answer : Reply) (new : Situation) : Type 0 where
  pub row : CacheCell
  pub is_row : cell_of old.protocol (state_of old core block) (asked asking) ≡ Some row
  pub held : Line
  pub entry : Option Item
  pub taken : Takes row.action row.next old.log core block word asking (held_of old core block) held answer entry
  pub after : new ≡ record (with_picture old block (with_line (picture_of old block) core held)) {
    queues = queues_after row.action old.queues core block;
    log = old.log ++ option_to_list entry;
  }

-- an Order: each controller takes its row for the request, looked up before it, at once
pub record Orders (old : Situation) (core block : ℕ) (request : Request) (new : Situation) : Type 0 where
  pub ready : CanOrder old core block request
  pub from : Option ℕ
  pub payload : Payload
  pub sent : IsOnlySender old.protocol (picture_of old block) core request from payload
  pub next : Picture
  pub taken : TakesRows old.protocol core request (picture_of old block).caches next.caches
  pub memory : TakesMemRow old.protocol (at_memory request) (picture_of old block).memory.state next.memory.state
  pub value : next.memory.value ≡ (picture_of old block).memory.value
  pub opened : next.transaction ≡ Some (record { core = core; request = request; block = block; payload = payload; value = value_sent (picture_of old block) from payload; from = from })
  pub after : new ≡ record (with_picture old block next) {
    queues = after_order old.queues core block;
    log = old.log ++ item.Sent (record { core = core; request = request; block = block }) ∷ [];
  }

-- a Respond: the message goes to its takers, and the transaction closes
pub record Responds (old : Situation) (block : ℕ) (closing : Open) (did : Option Did) (new : Situation) : Type 0 where
  pub opened : (picture_of old block).transaction ≡ Some closing
  pub next : Picture
  pub requestor : ArrivesFor closing.request closing old.protocol old.log (picture_of old block).caches next.caches did
  pub memory : ArrivesAtMemory closing old.protocol (picture_of old block).memory next.memory
  pub closed : next.transaction ≡ None
  pub after : new ≡ record (with_picture old block next) {
    log = old.log ++ item.Came (came_of closing) did ∷ [];
  }

-- an Ask on this block, of a core that exists, and of a word that does if it loads or stores: an Evict in I, or one that takes a row
pub record AskMove (block : ℕ) (old : Situation) (core on word : ℕ) (asking : Op) (answer : Reply) (new : Situation) : Type 0 where
  pub on_block : on ≡ block
  pub within : IsWithin old core block
  pub moves : IsAbsent old core block asking answer new ⊎ Asks old core block word asking answer new
  pub has_word : HasWord old.shape word asking

-- an Order on this block: what is ordered is replied
pub record OrderMove (block : ℕ) (old : Situation) (core : ℕ) (answer : Reply) (new : Situation) : Type 0 where
  pub request : Request
  pub within : IsWithin old core block
  pub answered : answer ≡ reply.Ordered request
  pub orders : Orders old core block request new

-- a Respond on this block: the response, with what it performed, is replied
pub record RespondMove (block : ℕ) (old : Situation) (on : ℕ) (answer : Reply) (new : Situation) : Type 0 where
  pub closing : Open
  pub did : Option Did
  pub on_block : on ≡ block
  pub within : block < old.shape.blocks
  pub answered : answer ≡ reply.Came closing.payload closing.from did
  pub responds : Responds old block closing did new

-- a move: the step, on this block, is answered by this reply and leads from old to new
abbrev pub MoveOn : ℕ → Situation → Step → Reply → Situation → Type 0
MoveOn block old (Ask core on word asking) answer new = AskMove block old core on word asking answer new
MoveOn block old (Order core) answer new = OrderMove block old core answer new
MoveOn block old (Respond on) answer new = RespondMove block old on answer new

-- an Order takes the block that stands first
abbrev pub TakesFirst : Situation → Step → ℕ → Type 0
TakesFirst old (Order core) block = StandsFirst old core block
TakesFirst old _ block = ⊤

-- a move in which an Order takes the block that stands first
abbrev pub FirstMove : Situation → Step → Reply → Situation → Type 0
FirstMove old step answer new = (block : ℕ) × (TakesFirst old step block × MoveOn block old step answer new)
