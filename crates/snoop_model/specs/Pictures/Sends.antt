-- Who sends at an Order.
-- Source: "A Primer on Memory Consistency and Cache Coherence", 2nd edition, chapter 7; the rows for MESI memory and E's eviction are this project's profile.
use Rattle.std.specs.Prelude.{◌≡◌, ℕ, ◌<◌, length, Option, Some, None, unwrap_or, if◌then◌else◌}
use Rattle.snoop_trace.specs.{Words.{Data, zero_words}, declared.protocol.Protocol.Protocol}
use Rattle.snoop_rules.specs.declared.names.CacheAction.TheVariants as action
use Rattle.snoop_rules.specs.declared.names.MemAction.TheVariants as mem_action
use Rattle.snoop_rules.specs.{declared.names.{Request.Request, Payload.Payload, CacheState.CacheState, MemState.MemState, Target.Target}, Cell.Cell}
use Rattle.snoop_rules.specs.{MemoryCell.MemoryCell, Takers.{seen_by, at_memory, carries_value}}
use Rattle.snoop_model.specs.Pictures.Picture.{Picture, held_by}

-- the controller, memory or a core, sends this payload when the core's request is ordered: its row for the request is to send it
abbrev pub Sends : Protocol → Picture → ℕ → Request → Option ℕ → Payload → Type 0
Sends protocol before core request None payload = (next : MemState) × MemoryCell protocol before.memory.state (at_memory request) (mem_action.Send payload) next
Sends protocol before core request (Some sender) payload =
    (sender < length before.caches) × ((target : Target) × ((next : CacheState) × Cell protocol (held_by before sender).state (seen_by sender core request) (action.Send payload target) next))

-- it sends, and no other controller does
pub record IsOnlySender (protocol : Protocol) (before : Picture) (core : ℕ) (request : Request) (from : Option ℕ) (payload : Payload) : Type 0 where
  pub sends : Sends protocol before core request from payload
  pub alone : (other : Option ℕ) (message : Payload) → Sends protocol before core request other message → other ≡ from

-- the words in the message: the sender's, where the payload carries them
abbrev pub value_sent : Picture → Option ℕ → Payload → Data
value_sent before None payload = if carries_value payload then before.memory.value else zero_words
value_sent before (Some core) payload = if carries_value payload then unwrap_or (held_by before core).kept zero_words else zero_words
