-- The words in which a scene is stated: its frames, each a step with its reply and the states after it, and what holds of them.
-- Source: the system model of "A Primer on Memory Consistency and Cache Coherence", 2nd edition, chapter 7; the steps, replies and
-- items are this project's profile.
use Rattle.std.specs.Prelude.{◌≡◌, ℕ, true, false, List, [], ◌∷◌, map, replicate, slice_set, Option, Some, None, Result, Ok, Err}
use Rattle.snoop_trace.specs.{Extent.Extent, Words.zero_words, declared.{step.Step.{Step, TheVariants.{Ask, Order, Respond}}, protocol.Protocol.Protocol}}
use Rattle.snoop_trace.specs.declared.step.Op.TheVariants as op
use Rattle.snoop_rules.specs.declared.names.{CacheState.CacheState, MemState.MemState, Request.Request, Payload.Payload}
use Rattle.snoop_history.specs.{declared.items.{Did.Did, Item.Item, Totals.Totals}, History.flat, Totals.touched}
use Rattle.snoop_history.specs.declared.items.Item.TheVariants as item
use Rattle.snoop_model.specs.{Pictures.{Lines.{Line, MemLine}, Picture.{Picture, free_picture, held_by}}, declared.replies.{Reply.Reply, Refused.Refused}}
use Rattle.snoop_model.specs.declared.replies.Reply.TheVariants as reply
use Rattle.snoop_model.specs.{Pictures.Situation.{Situation, reset}, Runs.Run.{GoesFirst, TheRun}}

-- two cores, and one block of 64 bytes that is one word
abbrev pub two_cores : Extent
two_cores = record { cores = 2; blocks = 1; block_bytes = 64; words = 1 }

-- two cores, and two blocks of 64 bytes that are one word each
abbrev pub two_blocks : Extent
two_blocks = record { cores = 2; blocks = 2; block_bytes = 64; words = 1 }

-- two cores, and one block of 64 bytes that has two words
abbrev pub two_words : Extent
two_words = record { cores = 2; blocks = 1; block_bytes = 64; words = 2 }

-- the states for one block: core 0's, core 1's and memory's
abbrev pub Controllers : Type 0
Controllers = CacheState × CacheState × MemState

-- a step, what it is answered, and the states after it, by block
abbrev pub Frame : Type 0
Frame = (Step × Result Reply Refused) × List Controllers

infix 40 ◌⟶◌
-- the step, and what it is answered
abbrev pub ◌⟶◌ : Step → Result Reply Refused → Step × Result Reply Refused
◌⟶◌ step outcome = (step, outcome)

-- the states of core 0, core 1 and memory, where there is one block
abbrev pub states : CacheState → CacheState → MemState → List Controllers
states first second memory = (first, second, memory) ∷ []

-- the steps of the frames, in order
abbrev pub steps_of : List Frame → List Step
steps_of frames = map (λ frame. frame.0.0) frames

-- what they are answered
abbrev pub outcomes_of : List Frame → List (Result Reply Refused)
outcomes_of frames = map (λ frame. frame.0.1) frames

-- the core asks to load the word of the block
abbrev pub load_word : ℕ → ℕ → ℕ → Step
load_word core block word = Ask core block word op.Load

-- the core asks to store the value in the word of the block
abbrev pub store_word : ℕ → ℕ → ℕ → ℕ → Step
store_word core block word value = Ask core block word (op.Store value)

-- the core asks to give the block up; the word is not looked at
abbrev pub evict_word : ℕ → ℕ → ℕ → Step
evict_word core block word = Ask core block word op.Evict

-- the core asks to load the block's first word
abbrev pub load : ℕ → ℕ → Step
load core block = load_word core block 0

-- the core asks to store the value in the block's first word
abbrev pub store : ℕ → ℕ → ℕ → Step
store core block value = store_word core block 0 value

-- the core asks to give the block up
abbrev pub evict : ℕ → ℕ → Step
evict core block = evict_word core block 0

-- the core's oldest request is ordered on the bus
abbrev pub order : ℕ → Step
order core = Order core

-- the response of the block's transaction comes
abbrev pub respond : ℕ → Step
respond block = Respond block

-- the load hits, and reads the value
abbrev pub hit : ℕ → Result Reply Refused
hit value = Ok (reply.Hit value)

-- the store hits
abbrev pub store_hit : Result Reply Refused
store_hit = Ok reply.StoreHit

-- the operation misses, and its request is last in the core's queue
abbrev pub issued : Request → Result Reply Refused
issued request = Ok (reply.Issued request)

-- the copy is dropped without a request
abbrev pub gone : Result Reply Refused
gone = Ok reply.Gone

-- there was no copy to evict
abbrev pub absent : Result Reply Refused
absent = Ok reply.Absent

-- the request is ordered, and its transaction opens
abbrev pub ordered : Request → Result Reply Refused
ordered request = Ok (reply.Ordered request)

-- the payload comes from its sender, and performs this operation, if any
abbrev pub came : Payload → Option ℕ → Option Did → Result Reply Refused
came payload from did = Ok (reply.Came payload from did)

-- the step is refused, and nothing has changed
abbrev pub refused : Refused → Result Reply Refused
refused cause = Err cause

-- memory is the sender
abbrev pub memory : Option ℕ
memory = None

-- the core of this number is the sender
abbrev pub core : ℕ → Option ℕ
core number = Some number

-- the core's operation of this number, counted from 0, is a load of the block's first word that missed, and read the value
abbrev pub missed_load : ℕ → ℕ → ℕ → ℕ → Did
missed_load core number block value = record { core = core; number = number; block = block; word = 0; load = true; value = value; hit = false }

-- the core's operation of this number, counted from 0, is a store of the value in the block's first word, and missed
abbrev pub missed_store : ℕ → ℕ → ℕ → ℕ → Did
missed_store core number block value = record { core = core; number = number; block = block; word = 0; load = false; value = value; hit = false }

-- the core's operation of this number, counted from 0, is a load of the block's first word that hit, and read the value
abbrev pub hit_load : ℕ → ℕ → ℕ → ℕ → Did
hit_load core number block value = record { core = core; number = number; block = block; word = 0; load = true; value = value; hit = true }

-- the core's operation of this number, counted from 0: a store of the value in the block's first word that hit
abbrev pub hit_store : ℕ → ℕ → ℕ → ℕ → Did
hit_store core number block value = record { core = core; number = number; block = block; word = 0; load = false; value = value; hit = true }

-- the same operation on another word
abbrev pub at_word : ℕ → Did → Did
at_word word did = record did { word = word }

-- a response performs the load that missed: the core, the operation's number, the block, the value
abbrev pub loads : ℕ → ℕ → ℕ → ℕ → Option Did
loads core number block value = Some (missed_load core number block value)

-- a response performs the store that missed
abbrev pub stores : ℕ → ℕ → ℕ → ℕ → Option Did
stores core number block value = Some (missed_store core number block value)

-- a writeback performs no operation
abbrev pub nothing : Option Did
nothing = None

-- the item of a hit
abbrev pub performed : Did → Item
performed did = item.Did did

-- the item of an Order: the core's request for the block
abbrev pub sent : ℕ → Request → ℕ → Item
sent core request block = item.Sent (record { core = core; request = request; block = block })

-- the item of a Respond: the core's request for the block, with the payload, its sender, and what it performed
abbrev pub answered : ℕ → Request → ℕ → Payload → Option ℕ → Option Did → Item
answered core request block payload from did = item.Came (record { core = core; request = request; block = block; from = from; payload = payload }) did

-- the words of a block whose first word has the value, and whose other words are 0
abbrev pub one_word : ℕ → List ℕ
one_word value = slice_set zero_words 0 value

-- a line in a stable state that keeps the words
abbrev pub holds_words : CacheState → List ℕ → Line
holds_words state words = record { state = state; kept = Some words; waiting = None }

-- a line in a stable state that keeps a value in its first word
abbrev pub holds : CacheState → ℕ → Line
holds state value = holds_words state (one_word value)

-- memory's state, and the value of its first word
abbrev pub remembers : MemState → ℕ → MemLine
remembers state value = record { state = state; value = one_word value }

-- what core 0, core 1 and memory hold of a block on which no transaction is open
abbrev pub closed : Line → Line → MemLine → Picture
closed first second memory = free_picture (first ∷ second ∷ []) memory

-- a situation in which the blocks have these pictures and no request waits
abbrev pub at_rest : Protocol → Extent → List Picture → List Item → Situation
at_rest protocol shape pictures log =
    record {
      protocol = protocol;
      shape = shape;
      pictures = pictures;
      queues = replicate shape.cores [];
      log = log;
    }

-- the totals of an empty history
abbrev pub no_totals : Totals
no_totals =
    record {
      loads = 0;
      load_hits = 0;
      stores = 0;
      store_hits = 0;
      get_s = 0;
      get_m = 0;
      put_m = 0;
      from_memory = 0;
      from_caches = 0;
      writebacks = 0;
      clean = 0;
      stale = 0;
    }

-- the blocks that the items mention, each with flat memory's value of its first word
abbrev pub values_of : List Item → List (ℕ × ℕ)
values_of items = map {B = ℕ × ℕ} (λ block. (block, flat items block 0)) (touched items)

-- the states of the first two cores and of memory, by block
abbrev pub controllers : List Picture → List Controllers
controllers pictures = map {B = Controllers} (λ picture. ((held_by picture 0).state, (held_by picture 1).state, picture.memory.state)) pictures

-- from old, each frame's step is answered as it says and leaves its states, and the last one leads to new
abbrev pub PassesFrom : Situation → List Frame → Situation → Type 0
PassesFrom old [] new = new ≡ old
PassesFrom old (frame ∷ frames) new =
    (middle : Situation) × (GoesFirst old frame.0.0 frame.0.1 middle × (controllers middle.pictures ≡ frame.1) × PassesFrom middle frames new)

-- from reset, the machine passes through the frames
abbrev pub PassesThrough : Protocol → Extent → List Frame → Situation → Type 0
PassesThrough protocol shape frames new = PassesFrom (reset protocol shape) frames new

-- the run of the frames' steps has their replies, leads to this end, and passes through the frames
pub record IsPlayed (protocol : Protocol) (shape : Extent) (frames : List Frame) (end : Situation) : Type 0 where
  pub run : TheRun protocol shape (steps_of frames) (outcomes_of frames) end
  pub states : PassesThrough protocol shape frames end
