-- Which Asks hit, what is replied to each step, and what it adds to the log.
-- Source: which Asks hit, the tables of "A Primer on Memory Consistency and Cache Coherence", 2nd edition, chapter 7; replies and items, this project's profile.
use Rattle.std.specs.Prelude.{◌≡◌, ⊤, ℕ, true, false, List, [], ◌∷◌, ◌++◌, Result, Ok, Err, IfSome}
use Rattle.snoop_trace.specs.declared.step.Op.TheVariants as op
use Rattle.snoop_trace.specs.declared.step.{Op.Op, Step.{Step, TheVariants.{Ask, Order, Respond}}}
use Rattle.snoop_trace.specs.declared.protocol.Protocol.{Protocol}
use Rattle.snoop_rules.specs.{declared.names.{CacheState.CacheState, Request.Request}, Cell.Cell, Takers.asked}
use Rattle.snoop_rules.specs.declared.names.CacheAction.TheVariants as action
use Rattle.snoop_history.specs.declared.items.Item.{Item}
use Rattle.snoop_history.specs.declared.items.Item.TheVariants as item
use Rattle.snoop_model.specs.declared.replies.{Reply.{Reply, TheVariants.{Hit, StoreHit, Issued, Gone, Absent, Ordered, Came}}, Refused.Refused}
use Rattle.snoop_model.specs.{Pictures.Proper.request_for, Moves.Move.next_did}

-- the row for this in the core's state is a hit; no eviction has such a row
abbrev pub MayHit : Protocol → CacheState → Op → Type 0
MayHit protocol state asking = (next : CacheState) × Cell protocol state (asked asking) action.Hit next

-- a reply that is a hit
abbrev pub IsHit : Reply → Type 0
IsHit (Hit value) = ⊤
IsHit StoreHit = ⊤
IsHit _ = ⊥

-- what a step with this outcome adds to the log, and which replies it may have: a hit is the operation that was asked, with the value that a load replied; what is issued is the request that serves it; an Order adds the request that was replied, of some block; a Respond adds the response that was replied, to some request for this block, with the operation, if any, of its requestor on the block, which is no hit; an issue, Gone, Absent and a refusal add nothing, and no step has another reply
abbrev pub Tells : List Item → Step → Result Reply Refused → List Item → Type 0
Tells past (Ask core block word op.Load) (Ok (Hit value)) log = log ≡ past ++ item.Did (next_did past core block word op.Load value true) ∷ []
Tells past (Ask core block word (op.Store value)) (Ok StoreHit) log = log ≡ past ++ item.Did (next_did past core block word (op.Store value) value true) ∷ []
Tells past (Ask core block word asking) (Ok (Issued request)) log = (request ≡ request_for asking) × (log ≡ past)
Tells past (Ask core block word op.Evict) (Ok Gone) log = log ≡ past
Tells past (Ask core block word op.Evict) (Ok Absent) log = log ≡ past
Tells past (Order core) (Ok (Ordered request)) log = (block : ℕ) × (log ≡ past ++ item.Sent (record { core = core; request = request; block = block }) ∷ [])
Tells past (Respond block) (Ok (Came payload from did)) log =
    (core : ℕ) × ((request : Request) × (log ≡ past ++ item.Came (record { core = core; request = request; block = block; from = from; payload = payload }) did ∷ [])
    × IfSome did (λ performed. (performed.core ≡ core) × (performed.block ≡ block) × (performed.hit ≡ false)))
Tells past step (Ok answer) log = ⊥
Tells past step (Err cause) log = log ≡ past
