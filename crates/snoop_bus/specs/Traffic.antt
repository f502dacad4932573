-- What a bus holds: each core's queue of requests, and each block's open transaction.
-- Source: "A Primer on Memory Consistency and Cache Coherence", 2nd edition, chapter 7, system model: requests of a core are ordered
-- in the order of issue, and transactions are atomic, one at a time for each block.
use Rattle.std.specs.Prelude.{◌≡◌, ℕ, ◌+◌, ◌<◌, List, [], drop, All, Option, Some, None, slice_get, slice_set, slice_index_or}
use Rattle.snoop_trace.specs.Words.{Data}
use Rattle.snoop_rules.specs.declared.names.{Request.Request, Payload.Payload}
use Rattle.snoop_bus.specs.declared.bus.Open as declared

-- one core's requests with their blocks, in order of issue, and for how many more there is room
pub record Waiting : Type 0 where
  pub requests : List (Request × ℕ)
  pub room : ℕ

-- an open transaction
abbrev pub Open : Type 0
Open = declared.Open Data

-- the queue of each core, and each block's open transaction, whose message carries a K
pub record TrafficOf (K : Type 0) : Type 0 where
  pub queues : List Waiting
  pub transactions : List (Option (declared.Open K))

-- the same with what a block holds
abbrev pub Traffic : Type 0
Traffic = TrafficOf Data

-- what a core outside the shape has
abbrev pub no_queue : Waiting
no_queue = record { requests = []; room = 0 }

-- the queue of one core
abbrev pub waiting_of : {K : Type 0} → TrafficOf K → ℕ → Waiting
waiting_of bus core = slice_index_or bus.queues core no_queue

-- the core's oldest request and its block
abbrev pub head_of : {K : Type 0} → TrafficOf K → ℕ → Option (Request × ℕ)
head_of bus core = slice_get (waiting_of bus core).requests 0

-- the transaction that is open on a block
abbrev pub transaction_on : {K : Type 0} → TrafficOf K → ℕ → Option (declared.Open K)
transaction_on bus block = slice_index_or bus.transactions block None

-- every request that waits is for a block that there is
abbrev pub AreBlocksWithin : List Waiting → ℕ → Type 0
AreBlocksWithin queues blocks = All (λ queue. All (λ r. r.1 < blocks) queue.requests) queues

-- the core's oldest request leaves its queue, which has room for one more, and its transaction opens with this message
pub record Starts {K : Type 0} (old new : TrafficOf K) (core : ℕ) (request : Request) (block : ℕ) (payload : Payload) (value : K) (from : Option ℕ) : Type 0 where
  pub room : ℕ
  pub more : room ≡ (waiting_of old core).room + 1
  pub queues : new.queues ≡ slice_set old.queues core (record { requests = drop 1 (waiting_of old core).requests; room = room })
  pub transactions : new.transactions ≡ slice_set old.transactions block (Some (record { core = core; request = request; block = block; payload = payload; value = value; from = from }))
