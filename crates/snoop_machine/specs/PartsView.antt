-- What is seen of a machine's parts, and what holds between them.
-- Source: this project's profile.
use Rattle.std.specs.Prelude.{◌≡◌, ◌<◌, ◌≤◌, ◌==◌, ℕ, zero, suc, length, List, [], ◌∷◌, map, filter, Option, Some, option_to_list, slice_index_or}
use Rattle.snoop_trace.specs.{Extent.Extent, Words.Data, declared.protocol.Protocol.Protocol}
use Rattle.snoop_rules.specs.{declared.names.{MemState.MemState, Request.Request}, Waits.waiting_request}
use Rattle.snoop_bus.specs.Traffic.{Open, Traffic, Waiting, waiting_of, transaction_on}
use Rattle.snoop_history.specs.Journal.{Journal}
use Rattle.snoop_model.specs.Pictures.{Lines.Line, Picture.Picture, Proper.IsProper}
use Rattle.snoop_machine.specs.{Memory.MemTables, Standing.Standing, Lines.{Held, line_at}}

-- the parts of a machine, however it holds the words of a block
pub record Fields : Type 0 where
  pub protocol : Protocol
  pub shape : Extent
  pub lines : Held
  pub memory : MemTables
  pub bus : Traffic
  pub log : Journal

-- these parts
abbrev pub fields : Protocol → Extent → Held → MemTables → Traffic → Journal → Fields
fields protocol shape lines memory bus log = record { protocol = protocol; shape = shape; lines = lines; memory = memory; bus = bus; log = log }

-- the queues that the bus shows
abbrev pub queues_of : List Waiting → List (List ℕ)
queues_of queues = map (λ queue. map (λ r. r.1) queue.requests) queues

-- the picture of each block: its lines, memory's state and words, and its open transaction
abbrev pub pictures_of : List (List Line) → List MemState → List Data → List (Option Open) → List Picture
pictures_of (row ∷ rows) (state ∷ states) (value ∷ values) (transaction ∷ transactions) =
    record { caches = row; memory = record { state = state; value = value }; transaction = transaction } ∷ pictures_of rows states values transactions
pictures_of _ _ _ _ = []

-- for how many more lines a map has room, as callers see it: none where its core's queue has no room, since there a request that is refused may have let the map grow
abbrev pub shown_line_room : ℕ → ℕ → ℕ
shown_line_room zero spare = 0
shown_line_room (suc room) spare = spare

-- that of each core
abbrev pub shown_line_rooms : List Waiting → List ℕ → List ℕ
shown_line_rooms (queue ∷ queues) (spare ∷ line_rooms) = shown_line_room queue.room spare ∷ shown_line_rooms queues line_rooms
shown_line_rooms _ _ = []

-- the view of the parts
abbrev pub standing : Fields → Standing
standing m =
    record {
      situation = record {
        protocol = m.protocol;
        shape = m.shape;
        pictures = pictures_of m.lines.rows m.memory.states m.memory.words m.bus.transactions;
        queues = queues_of m.bus.queues;
        log = m.log.items;
      };
      request_rooms = map (λ queue. queue.room) m.bus.queues;
      line_rooms = shown_line_rooms m.bus.queues m.lines.line_rooms;
      room = m.log.room;
      lines = m.lines.lines;
    }

-- the requests of a queue that are for the block
abbrev pub requests_for : ℕ → List (Request × ℕ) → List Request
requests_for block requests = map (λ r. r.0) (filter (λ r. r.1 == block) requests)

-- the queue has for this block the one request with which the line waits, or none where it waits with none
abbrev pub WaitsAs : ℕ → Waiting → Line → Type 0
WaitsAs block queue line = requests_for block queue.requests ≡ option_to_list (waiting_request line.state)

-- lines, queues and open transactions fit together
pub record IsSound (shape : Extent) (caches : List (List Line)) (bus : Traffic) : Type 0 where
  pub rows : length caches ≡ shape.blocks
  pub row : (block : ℕ) → block < shape.blocks → length (slice_index_or caches block []) ≡ shape.cores
  pub queues : length bus.queues ≡ shape.cores
  pub transactions : length bus.transactions ≡ shape.blocks
  pub proper : (core block : ℕ) → IsProper (line_at caches core block)
  pub opened : (block : ℕ) (transaction : Open) → transaction_on bus block ≡ Some transaction → (transaction.block ≡ block) × (transaction.core < shape.cores)
  pub waits : (core block : ℕ) → WaitsAs block (waiting_of bus core) (line_at caches core block)

-- what is kept beside the lines and the bus is as large as the shape says, and a block holds so many words
pub record IsSized (count : ℕ) (m : Fields) : Type 0 where
  pub few : m.shape.cores < 257
  pub lines : length m.lines.lines ≡ m.shape.cores
  pub states : length m.memory.states ≡ m.shape.blocks
  pub values : length m.memory.words ≡ m.shape.blocks
  pub cores : m.log.cores ≡ m.shape.cores
  pub blocks : m.log.blocks ≡ m.shape.blocks
  pub words : m.log.words ≡ m.shape.words
  pub held : m.shape.words ≡ count
  pub few_words : count ≤ 64

-- what the parts of every machine keep
pub record IsWhole (count : ℕ) (m : Fields) : Type 0 where
  pub sound : IsSound m.shape m.lines.rows m.bus
  pub sized : IsSized count m
