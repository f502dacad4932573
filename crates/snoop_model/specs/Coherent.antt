-- Coherence: what holds after any steps that a machine at reset takes or refuses, in any order.
-- Source: chapters 2 and 7 of "A Primer on Memory Consistency and Cache Coherence", 2nd edition; the rest is this project's profile.
use Rattle.std.specs.Prelude.{◌≡◌, ◌≢◌, ◌↔◌, ◌⊎◌, ◌<◌, ℕ, List, [], All, Some, None, Result, IfSome, IsSome, IsTrue, option_map}
use Rattle.snoop_trace.specs.{Extent.Extent, Words.IsWord, declared.step.{Op.{Op, TheVariants.Evict}, Step.{Step, TheVariants.Ask}}}
use Rattle.snoop_trace.specs.declared.protocol.Protocol.{Protocol}
use Rattle.snoop_rules.specs.{declared.names.{CacheState.{CacheState, TheVariants.{E, EiA}}, Request.{Request, TheVariants.{GetS, PutM}}}, Possible.{MayLoad, MayStore}, Takers.takes_payload}
use Rattle.snoop_history.specs.History.{flat_words, operations, Legal}
use Rattle.snoop_model.specs.{declared.replies.{Reply.{Reply, TheVariants.{Gone, Absent}}, Refused.{Refused, TheVariants.Stalled}}, Pictures.InQueue.IsInQueue}
use Rattle.snoop_model.specs.{Pictures.{Picture.{nothing_held, data_under_way}, OneWriter.{OneWriter, lets_load, lets_store}}, Moves.Move.{IsWithin, Orders, MoveOn, FirstMove}}
use Rattle.snoop_model.specs.{Pictures.Situation.{Situation, IsShaped, picture_of, held_of, state_of, Waits, CanOrder, HasOpen}, Moves.{Refuses.Refuses, Replies.{IsHit, MayHit, Tells}}}
use Rattle.snoop_model.specs.{Pictures.Proper.{missed_request, request_for, awaited_request}, Moves.SenderTable.{IsSenderLine, IsOpenByTable}, Runs.Run.RunBy}
use Rattle.snoop_model.specs.Runs.Once.{Once}

-- a coherent machine
pub record IsCoherent (s : Situation) : Type 0 where
  -- it has a picture for each block, with a line for each core, and a queue for each core
  pub shaped : IsShaped s
  -- each block has one writer alone, or only readers, or neither
  pub one_writer : (block : ℕ) → OneWriter s.protocol (picture_of s block)
  -- memory's state says what the caches may have: a core may load a block only where memory's state of it is neither I nor I_D
  pub readers : (core block : ℕ) → MayLoad s.protocol (state_of s core block) → IsTrue (lets_load (picture_of s block).memory.state)
  -- and store in it only where that state is M, M_D, EorM or EorM_D
  pub writers : (core block : ℕ) → MayStore s.protocol (state_of s core block) → IsTrue (lets_store (picture_of s block).memory.state)
  -- where it is one of these, and no transaction of the block is open, some core may store in the block
  pub owned : (block : ℕ) → IsTrue (lets_store (picture_of s block).memory.state) → (picture_of s block).transaction ≡ None → (core : ℕ) × MayStore s.protocol (state_of s core block)
  -- where none is open, memory waits for no message: its state is none of those that end in D
  pub at_rest : (block : ℕ) → (picture_of s block).transaction ≡ None → ¬ IsTrue (takes_payload GetS (picture_of s block).memory.state)
  -- in the history each load has the value of the last store to its word before it, or 0 where there is none, and each core's operations are numbered in order
  pub legal : Legal s.log
  -- each operation of the history is by a core, of a block and of a word that the machine has
  pub logged : All (λ did. IsWithin s did.core did.block × IsWord s.shape did.word) (operations s.log)
  -- no core keeps words of a block that it may not read
  pub kept : (core block : ℕ) → IsSome (held_of s core block).kept → MayLoad s.protocol (state_of s core block)
  -- each copy that may be read has in each word the value of the last store to it, or 0 where there is none
  pub current : (core block : ℕ) → MayLoad s.protocol (state_of s core block) → (held_of s core block).kept ≡ Some (flat_words s.log block)
  -- so has data under way in each of its words
  pub carried : (block : ℕ) → block < s.shape.blocks → IfSome (data_under_way (picture_of s block).transaction) (λ words. words ≡ flat_words s.log block)
  -- and so has memory, where no core may write the block and no data of it is under way
  pub memory : (block : ℕ) → block < s.shape.blocks → ((core : ℕ) → ¬ MayStore s.protocol (state_of s core block)) → data_under_way (picture_of s block).transaction ≡ None → (picture_of s block).memory.value ≡ flat_words s.log block
  -- memory has these values too where a core holds the block in E or EI_A: the copy is clean
  pub clean : (core block : ℕ) → (state_of s core block ≡ E) ⊎ (state_of s core block ≡ EiA) → (picture_of s block).memory.value ≡ flat_words s.log block
  -- a block's open transaction is of this block, and its requestor is a core of the machine; so is its sender, where that isn't memory
  pub opened : (block : ℕ) → IfSome (picture_of s block).transaction (λ transaction. (transaction.block ≡ block) × (transaction.core < s.shape.cores) × IfSome transaction.from (λ sender. sender < s.shape.cores))
  -- a load waits exactly in IS_AD and IS_D, a store exactly in IM_AD, IM_D, SM_AD and SM_D, and nothing in another state
  pub waiting : (core block : ℕ) → option_map (λ access. request_for access.op) (held_of s core block).waiting ≡ missed_request (state_of s core block)
  -- a core is in IS_D exactly where it is the requestor of the block's open GetS, and in IM_D or SM_D exactly where it is that of the block's open GetM
  pub awaited : (core block : ℕ) (request : Request) → (awaited_request (state_of s core block) ≡ Some request) ↔ (HasOpen s core block request × (request ≢ PutM))
  -- each core's queue has the blocks for which its request is not yet ordered, each once, and no others
  pub queued : (core block : ℕ) → IsInQueue s core block
  -- an operation may be refused as stalled only where its core's own request for the block waits, or is open and no PutM
  pub stalls : (core block word : ℕ) (asking : Op) (state : CacheState) → Refuses s (Ask core block word asking) (Stalled state) → (request : Request) × (Waits s core block request ⊎ (HasOpen s core block request × (request ≢ PutM)))
  -- an Ask that is taken next is answered by a hit exactly where its row in the core's state is a hit: a load where the core may load, a store where it may store, an eviction never
  pub hits : (core block word : ℕ) (asking : Op) (answer : Reply) (new : Situation) → MoveOn block s (Ask core block word asking) answer new → (IsHit answer ↔ MayHit s.protocol (state_of s core block) asking)
  -- an eviction taken next that is answered Gone or Absent leaves the core in I, with no words kept and no operation waiting
  pub gone : (core block word : ℕ) (answer : Reply) (new : Situation) → (answer ≡ Gone) ⊎ (answer ≡ Absent) → MoveOn block s (Ask core block word Evict) answer new → held_of new core block ≡ nothing_held
  -- a core whose PutM is open keeps no words of the block
  pub given_up : (core block : ℕ) → HasOpen s core block PutM → (held_of s core block).kept ≡ None
  -- no step is stuck at an impossible cell: each that has no cause to be refused has a move, an Order on the first block of its core's queue
  pub moves : (step : Step) → ((cause : Refused) → ¬ Refuses s step cause) → (answer : Reply) × ((new : Situation) × FirstMove s step answer new)
  -- so has an Order of a waiting request of any free block: each controller takes its row for it, and exactly one sends
  pub orders : (core block : ℕ) (request : Request) → CanOrder s core block request → (new : Situation) × Orders s core block request new
  -- each Order that is taken next, of any block, goes by a line of the table of senders, `lines_of`
  pub by_table : (core block : ℕ) (request : Request) (new : Situation) (made : Orders s core block request new) → IsSenderLine s.protocol (picture_of s block) core request made.from made.payload made.next.memory.state
  -- an open transaction is on such a line, for some picture; a Respond taken next closes it and leaves memory in that line's last state
  pub on_table : (block : ℕ) → IfSome (picture_of s block).transaction (IsOpenByTable s block)

-- what holds where these steps, with these outcomes, have led a machine of this protocol and shape from reset to this situation
pub record IsCoherentRun (protocol : Protocol) (shape : Extent) (steps : List Step) (outcomes : List (Result Reply Refused)) (s : Situation) : Type 0 where
  -- it has the protocol and the shape still
  pub stays : (s.protocol ≡ protocol) × (s.shape ≡ shape)
  -- it is coherent
  pub coherent : IsCoherent s
  -- of each core and block, the loads and stores in the history and the one that waits, if any, are exactly those whose Asks were taken, each as often
  pub once : Once steps outcomes s
  -- each step adds to the log what its outcome tells, and its reply is one that such a step may have: a load that hits replies the value that the log has for it
  pub told : RunBy Tells [] steps outcomes s.log
