-- Which rows of the tables the controllers take at a step.
-- Source: "A Primer on Memory Consistency and Cache Coherence", 2nd edition, chapter 7, whose tables they are; which lines there are is this project's profile.
use Rattle.std.specs.{Prelude.{◌≡◌, ℕ, ◌&&◌, List, [], ◌∷◌, ◌++◌, Option, Some, None, Result, Ok, Err, nat_lt, slice_get, if◌then◌else◌}, Option.option_map_or}
use Rattle.std.specs.List.{flat_map, range_with_len}
use Rattle.snoop_trace.specs.declared.step.{Op.Op, Step.{Step, TheVariants.{Ask, Order, Respond}}}
use Rattle.snoop_trace.specs.declared.step.Op.TheVariants as op
use Rattle.snoop_rules.specs.declared.names.{CacheState.{CacheState, TheVariants.I}, CacheEvent.CacheEvent, MemEvent.MemEvent, MemState.MemState}
use Rattle.snoop_rules.specs.{declared.names.{Payload.Payload, Request.{Request, TheVariants.{GetS, GetM, PutM}}}, Waits.waiting_request}
use Rattle.snoop_rules.specs.Takers.{asked, seen_by, at_memory, arrival, arrival_at_memory, takes_payload}
use Rattle.snoop_bus.specs.{Traffic.Open, Queues.queue_of}
use Rattle.snoop_model.specs.declared.replies.{Reply.Reply, Refused.{Refused, TheVariants.{Stalled, NothingWaiting, BusTaken, NoTransaction}}}
use Rattle.snoop_model.specs.Pictures.Situation.{Situation, picture_of, state_of}
use Rattle.snoop_engine.specs.declared.taken.Taken.{Taken, TheVariants.{Core, Memory, Nobody}}

-- the core's state of the block; none where the shape has no such core or no such block
abbrev pub state_at : Situation → ℕ → ℕ → Option CacheState
state_at s core block = if nat_lt core s.shape.cores && nat_lt block s.shape.blocks then Some (state_of s core block) else None

-- memory's state of the block; none where the shape has no such block
abbrev pub memory_at : Situation → ℕ → Option MemState
memory_at s block = if nat_lt block s.shape.blocks then Some (picture_of s block).memory.state else None

-- the line of a core, which meets this event, if one is given; no line where the shape has no such core or no such block
abbrev pub of_core : Situation → ℕ → ℕ → Option CacheEvent → List Taken
of_core s core block event = option_map_or (λ before. Core core block event before ∷ []) (state_at s core block) []

-- the line of memory, which meets the event; no line where the shape has no such block
abbrev pub of_memory : Situation → ℕ → MemEvent → List Taken
of_memory s block event = option_map_or (λ before. Memory block event before ∷ []) (memory_at s block) []

-- the event of an Ask; an Evict in I is none
abbrev pub event_asked : Op → CacheState → Option CacheEvent
event_asked op.Evict I = None
event_asked asking _ = Some (asked asking)

-- the line of an Ask: its core meets what is asked, if that is an event
abbrev pub of_ask : Situation → ℕ → ℕ → Op → List Taken
of_ask s core block asking = option_map_or (λ before. Core core block (event_asked asking before) before ∷ []) (state_at s core block) []

-- the line, unless the state is I
abbrev pub unless_i : CacheState → Taken → List Taken
unless_i I line = []
unless_i _ line = line ∷ []

-- the line of a core that holds something of the block: it meets another's request, or its own
abbrev pub of_holder : Situation → ℕ → ℕ → Request → ℕ → List Taken
of_holder s requestor block request core =
    option_map_or (λ before. unless_i before (Core core block (Some (seen_by core requestor request)) before)) (state_at s core block) []

-- the lines of an Order of this request: the cores that are not in I, by rising number, and then memory meet it
abbrev pub of_request : Situation → ℕ → ℕ → Request → List Taken
of_request s core block request =
    flat_map (of_holder s core block request) (range_with_len 0 s.shape.cores) ++ of_memory s block (at_memory request)

-- the lines of an Order of this core's request for this block; which request it is, the core's state says
abbrev pub of_order : Situation → ℕ → ℕ → List Taken
of_order s core block = option_map_or (of_request s core block) (waiting_request (state_of s core block)) []

-- the line of a core that meets what comes, if that is an event; else no line
abbrev pub of_arrival : Situation → ℕ → ℕ → Option CacheEvent → List Taken
of_arrival s core block None = []
of_arrival s core block (Some event) = of_core s core block (Some event)

-- the transaction is that of the core, its request and what is sent
pub record IsTransfer (opened : Open) (core : ℕ) (request : Request) (payload : Payload) : Type 0 where
  pub requestor : opened.core ≡ core
  pub requests : opened.request ≡ request
  pub sends : opened.payload ≡ payload

-- the line of the requestor, which meets what comes to it; no line after a PutM, for nothing comes
abbrev pub of_requestor : Request → Situation → ℕ → Open → List Taken
of_requestor PutM s block opened = []
of_requestor GetS s block opened = of_arrival s opened.core block (arrival opened.payload)
of_requestor GetM s block opened = of_arrival s opened.core block (arrival opened.payload)

-- the line of memory, which meets what comes, if that is an event; else no line
abbrev pub of_arrival_at_memory : Situation → ℕ → Option MemEvent → List Taken
of_arrival_at_memory s block None = []
of_arrival_at_memory s block (Some event) = of_memory s block event

-- the line of memory, which meets what comes where it takes the payload
abbrev pub of_waiting_memory : Situation → ℕ → Open → List Taken
of_waiting_memory s block opened =
    option_map_or (λ before. if takes_payload opened.request before then of_arrival_at_memory s block (arrival_at_memory opened.payload) else []) (memory_at s block) []

-- the lines of a Respond that ends this transaction: the requestor meets what comes, and then memory
abbrev pub of_respond : Situation → ℕ → Open → List Taken
of_respond s block opened = of_requestor opened.request s block opened ++ of_waiting_memory s block opened

-- the lines of a step that is taken, by the machine before it
abbrev pub taken_by : Situation → Step → List Taken
taken_by s (Ask core block word asking) = of_ask s core block asking
taken_by s (Order core) = option_map_or (of_order s core) (slice_get (queue_of s.queues core) 0) []
taken_by s (Respond block) = option_map_or (of_respond s block) (picture_of s block).transaction []

-- the lines of a step that is refused: a stall is a row of the table, and at any other refusal no row is taken
abbrev pub refused_by : Situation → Step → Refused → List Taken
refused_by s (Ask core block word asking) (Stalled held) = of_ask s core block asking
refused_by s (Order core) (BusTaken block) = of_core s core block None
refused_by s (Order core) NothingWaiting = Nobody (Some core) None ∷ []
refused_by s (Respond block) NoTransaction = Nobody None (Some block) ∷ []
refused_by s _ _ = Nobody None None ∷ []

-- the lines of a step, by the machine before it and what was answered
abbrev pub lines_of_step : Situation → Step → Result Reply Refused → List Taken
lines_of_step s step (Ok answer) = taken_by s step
lines_of_step s step (Err cause) = refused_by s step cause
