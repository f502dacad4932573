-- Each Order and each open transaction goes by the table of senders.
-- Source: "A Primer on Memory Consistency and Cache Coherence", 2nd edition, chapter 7; MESI's memory is this project's profile.
use Rattle.std.specs.Prelude.{◌≡◌, ℕ, Option, None, Contains}
use Rattle.snoop_trace.specs.declared.{step.Step.TheVariants.Respond, protocol.Protocol.Protocol}
use Rattle.snoop_rules.specs.{declared.names.{MemState.MemState, MemAction.MemAction, Request.Request, Payload.Payload}, Takers.at_memory}
use Rattle.snoop_rules.specs.WhoSends.{sender_of, lines_of}
use Rattle.snoop_bus.specs.Traffic.{Open}
use Rattle.snoop_model.specs.{declared.replies.Reply.Reply, Pictures.{Picture.{Picture, held_by}, Situation.{Situation, picture_of, CanOrder}}}
use Rattle.snoop_model.specs.{Moves.Move.{TakesMemRow, Settles, MoveOn}, Pictures.Sends.IsOnlySender}

-- the core's request is met as a line of the table says: from memory's state and the sender's before it, to memory's state after it, from which memory's row for the payload leads to `done`; where memory does not take the payload, `done` is memory's state after the Order
pub record IsSenderLine (protocol : Protocol) (before : Picture) (core : ℕ) (request : Request) (from : Option ℕ) (payload : Payload) (next : MemState) : Type 0 where
  pub done : MemState
  pub line : Contains (lines_of protocol request before.memory.state) (sender_of core (λ k. (held_by before k).state) from, payload, next, done)
  pub act : MemAction
  pub settled : Settles protocol request payload next act done

-- the core's request, ordered now, has exactly one sender, and is a line of the table
pub record FollowsSenderTable (protocol : Protocol) (before : Picture) (core : ℕ) (request : Request) : Type 0 where
  pub from : Option ℕ
  pub payload : Payload
  pub next : MemState
  pub sent : IsOnlySender protocol before core request from payload
  pub ordered : TakesMemRow protocol (at_memory request) before.memory.state next
  pub is_line : IsSenderLine protocol before core request from payload next

-- the open transaction is on a line of the table, with its core as requestor, for memory's state and the sender's in some picture, not necessarily that of its Order, and memory's state now; and a Respond taken next closes it and leaves memory in that line's last state
pub record IsOpenByTable (s : Situation) (block : ℕ) (transaction : Open) : Type 0 where
  pub before : Picture
  pub on_line : IsSenderLine s.protocol before transaction.core transaction.request transaction.from transaction.payload (picture_of s block).memory.state
  pub settled : (answer : Reply) (new : Situation) → MoveOn block s (Respond block) answer new → ((picture_of new block).transaction ≡ None) × ((picture_of new block).memory.state ≡ on_line.done)

-- every request that can be ordered would have exactly one sender, and be a line of the protocol's table
abbrev pub OrdersFollowSenderTable : Protocol → Situation → Type 0
OrdersFollowSenderTable protocol s = (core block : ℕ) (request : Request) → CanOrder s core block request → FollowsSenderTable protocol (picture_of s block) core request
