-- Which rows a step looks up.
-- Source: this project's profile.
use Rattle.std.specs.Prelude.{◌≡◌, ◌≢◌, ℕ, Option, Some, IsSomeAnd, IsTrue}
use Rattle.snoop_trace.specs.declared.step.Op.TheVariants as op
use Rattle.snoop_trace.specs.declared.{step.Step.{Step, TheVariants.{Ask, Order, Respond}}, protocol.Protocol.Protocol}
use Rattle.snoop_rules.specs.declared.names.{CacheState.CacheState, CacheEvent.CacheEvent, CacheCell.CacheCell, MemState.MemState, MemEvent.MemEvent}
use Rattle.snoop_rules.specs.declared.names.CacheState.TheVariants as state
use Rattle.snoop_rules.specs.{declared.names.{MemCell.MemCell, Request.{Request, TheVariants.PutM}}, Cell.cell_of, MemoryCell.memory_cell_of}
use Rattle.snoop_rules.specs.Takers.{asked, seen_by, at_memory, arrival, arrival_at_memory, takes_payload}
use Rattle.snoop_bus.specs.Traffic.{Open}
use Rattle.snoop_model.specs.Pictures.Situation.{Situation, picture_of, state_of, CanOrder}

-- the cache table has a row for the pair
abbrev pub HasRow : Protocol → CacheState → CacheEvent → Type 0
HasRow protocol state event = (row : CacheCell) × (cell_of protocol state event ≡ Some row)

-- the memory table has a row for the pair
abbrev pub HasMemRow : Protocol → MemState → MemEvent → Type 0
HasMemRow protocol memory event = (row : MemCell) × (memory_cell_of protocol memory event ≡ Some row)

-- at the step the core looks up its row for this event on the block: at an Ask the asker for its operation, but not for an Evict in I; at an Order of a free block each core for the request;
-- and at a Respond the requestor for its payload, but not at a PutM. A payload that is for memory alone is no event, and has no row
abbrev pub ConsultsCache : Situation → Step → ℕ → ℕ → Option CacheEvent → Type 0
ConsultsCache s (Ask asker on word asking) core block event =
    (core ≡ asker) × (block ≡ on) × (¬ ((asking ≡ op.Evict) × (state_of s core block ≡ state.I))) × (event ≡ Some (asked asking))
ConsultsCache s (Order requestor) core block event = (request : Request) × (CanOrder s requestor block request × (event ≡ Some (seen_by core requestor request)))
ConsultsCache s (Respond on) core block event =
    (closing : Open) × ((block ≡ on) × ((picture_of s block).transaction ≡ Some closing) × (core ≡ closing.core) × (closing.request ≢ PutM) × (event ≡ arrival closing.payload))

-- at the step memory looks up its row for this event on the block: the request, or the payload that it takes. A payload that is for a requestor alone is no event, and has no row
abbrev pub ConsultsMemory : Situation → Step → ℕ → Option MemEvent → Type 0
ConsultsMemory s (Ask asker on word asking) block event = ⊥
ConsultsMemory s (Order requestor) block event = (request : Request) × (CanOrder s requestor block request × (event ≡ Some (at_memory request)))
ConsultsMemory s (Respond on) block event =
    (closing : Open) × ((block ≡ on) × ((picture_of s block).transaction ≡ Some closing) × IsTrue (takes_payload closing.request (picture_of s block).memory.state) × (event ≡ arrival_at_memory closing.payload))

-- each row that is looked up at the step is there: no controller meets an impossible cell
pub record FindsRows (s : Situation) (step : Step) : Type 0 where
  pub cache : (core block : ℕ) (event : Option CacheEvent) → ConsultsCache s step core block event → IsSomeAnd event (HasRow s.protocol (state_of s core block))
  pub memory : (block : ℕ) (event : Option MemEvent) → ConsultsMemory s step block event → IsSomeAnd event (HasMemRow s.protocol (picture_of s block).memory.state)
