-- All that is seen of a machine.
-- Source: this project's profile.
use Rattle.std.specs.Prelude.{◌≡◌, ◌<◌, ℕ, List, [], Some, None, slice_get, slice_index_or, slice_set, replicate, length}
use Rattle.snoop_trace.specs.{Extent.Extent, Words.zero_words, declared.protocol.Protocol.Protocol}
use Rattle.snoop_rules.specs.{declared.names.{CacheState.CacheState, Request.Request, MemState.TheVariants.IorS}, Waits.waiting_request}
use Rattle.snoop_history.specs.declared.items.Item.{Item}
use Rattle.snoop_model.specs.Pictures.{Lines.Line, Picture.{Picture, first_memory, nothing_held, held_by}}
use Rattle.snoop_bus.specs.{Queues.queue_of, Traffic.Open}

-- the protocol and the shape, the picture of each block, each core's queue, and the log, with the history in it
pub record Situation : Type 0 where
  pub protocol : Protocol
  pub shape : Extent
  pub pictures : List Picture
  pub queues : List (List ℕ)
  pub log : List Item

-- a block at reset: every cache in I, memory with 0, no transaction open
abbrev pub untouched : Protocol → ℕ → Picture
untouched protocol cores =
    record {
      caches = replicate cores nothing_held;
      memory = record { state = first_memory protocol; value = zero_words };
      transaction = None;
    }

-- every block untouched, and nothing waiting
abbrev pub reset : Protocol → Extent → Situation
reset protocol shape =
    record {
      protocol = protocol;
      shape = shape;
      pictures = replicate shape.blocks (untouched protocol shape.cores);
      queues = replicate shape.cores [];
      log = [];
    }

-- what stands for the picture of a block outside the shape
abbrev pub nothing_there : Picture
nothing_there = record { caches = []; memory = record { state = IorS; value = zero_words }; transaction = None }

-- the picture of a block
abbrev pub picture_of : Situation → ℕ → Picture
picture_of s block = slice_index_or s.pictures block nothing_there

-- the block has this picture, and the others are as they were
abbrev pub with_picture : Situation → ℕ → Picture → Situation
with_picture s block picture = record s { pictures = slice_set s.pictures block picture }

-- what the core holds of the block
abbrev pub held_of : Situation → ℕ → ℕ → Line
held_of s core block = held_by (picture_of s block) core

-- the core's state of the block
abbrev pub state_of : Situation → ℕ → ℕ → CacheState
state_of s core block = (held_of s core block).state

-- the core's request for the block is issued and not yet ordered
abbrev pub Waits : Situation → ℕ → ℕ → Request → Type 0
Waits s core block request = waiting_request (state_of s core block) ≡ Some request

-- the request waits, and no transaction is open on the block: it can be ordered
abbrev pub CanOrder : Situation → ℕ → ℕ → Request → Type 0
CanOrder s core block request = Waits s core block request × ((picture_of s block).transaction ≡ None)

-- the core is the requestor of the block's open transaction, which is for this request
abbrev pub HasOpen : Situation → ℕ → ℕ → Request → Type 0
HasOpen s core block request =
    (transaction : Open) × (((picture_of s block).transaction ≡ Some transaction) × (transaction.core ≡ core) × (transaction.request ≡ request))

-- the block stands first in the core's queue
abbrev pub StandsFirst : Situation → ℕ → ℕ → Type 0
StandsFirst s core block = slice_get (queue_of s.queues core) 0 ≡ Some block

-- the block stands first in the core's queue, the core waits on it with this request, and it is of the shape
pub record IsHead (s : Situation) (core : ℕ) (request : Request) (block : ℕ) : Type 0 where
  pub first : StandsFirst s core block
  pub waits : Waits s core block request
  pub within : block < s.shape.blocks

-- there is a picture for each block, with a line for each core, and a queue for each core
pub record IsShaped (s : Situation) : Type 0 where
  pub pictures : length s.pictures ≡ s.shape.blocks
  pub row : (block : ℕ) → block < s.shape.blocks → length (picture_of s block).caches ≡ s.shape.cores
  pub queues : length s.queues ≡ s.shape.cores
