-- What is said of a block: of a core, of an open transaction, of memory.
-- Source: this project's profile.
use Rattle.std.specs.{Prelude.{ℕ, Bool, true, false, List, [], ◌++◌, codes, Option, Some, None, nat_lt, if◌then◌else◌}, Fmt.decimal, Option.option_map_or}
use Rattle.std.specs.List.{flat_map, range_with_len}
use Rattle.snoop_trace.specs.{Words.{Data, word_at}, declared.protocol.Protocol.{Protocol, TheVariants.{Msi, Mesi}}}
use Rattle.snoop_rules.specs.{declared.names.{CacheState.CacheState, MemState.{MemState, TheVariants.{IorS, I, S}}, Payload.Payload}, Takers.carries_value}
use Rattle.snoop_rules.specs.Names.{memory_state_name, payload_name, request_name, state_name}
use Rattle.snoop_bus.specs.{Queues.{place_in, queue_of}, Traffic.Open}
use Rattle.snoop_model.specs.Pictures.Situation.{Situation}
use Rattle.snoop_engine.specs.{States.{kept_at, memory_text}, Taken.{memory_at, state_at}}

-- the name of a protocol in capitals: `MSI` or `MESI`
abbrev pub capitals : Protocol → List ℕ
capitals Msi = codes "MSI"
capitals Mesi = codes "MESI"

-- a value that is there, a blank before it
abbrev pub spaced : Option ℕ → List ℕ
spaced None = []
spaced (Some value) = codes " " ++ decimal value

-- the values that the core keeps
abbrev pub kept_words : Situation → ℕ → ℕ → List ℕ
kept_words s core block = flat_map (λ word. spaced (kept_at s core block word)) (range_with_len 0 s.shape.words)

-- a state that is there
abbrev pub state_words : Option CacheState → List ℕ
state_words state = option_map_or state_name state []

-- a place in the queue, from this one on
abbrev pub place_words : ℕ → Option ℕ → List ℕ
place_words least None = []
place_words least (Some place) = if nat_lt place least then [] else codes " #" ++ decimal place

-- what is said of a core and a block: the core's state of it, the values that it keeps, and the place of its request in its queue, if that is this place or a later one
abbrev pub core_words : ℕ → Situation → ℕ → ℕ → List ℕ
core_words least s block core = state_words (state_at s core block) ++ kept_words s core block ++ place_words least (place_in (queue_of s.queues core) block)

-- the values of so many words
abbrev pub data_words : ℕ → Data → List ℕ
data_words count values = flat_map (λ word. codes " " ++ decimal (word_at values word)) (range_with_len 0 count)

-- the values that a message carries, if any
abbrev pub carried_words : ℕ → Payload → Data → List ℕ
carried_words count payload values = if carries_value payload then data_words count values else []

-- the message of an open transaction, for the core that asked for it
abbrev pub message_words : ℕ → Open → List ℕ
message_words count opened =
    codes "C" ++ decimal opened.core ++ codes " " ++ request_name opened.request ++ codes ": " ++ payload_name opened.payload ++ carried_words count opened.payload opened.value

-- in this state memory sends its values to a core that asks
abbrev pub answers : MemState → Bool
answers IorS = true
answers I = true
answers S = true
answers _ = false

-- a state of memory and its values, in brackets where it would not send them
abbrev pub memory_state_words : List ℕ → MemState → List ℕ
memory_state_words values state =
    memory_state_name state ++ (if answers state then codes " " ++ values else codes " (" ++ values ++ codes ")")

-- what is said of memory and a block: memory's state of it and its values, which are in brackets where it would not send them
abbrev pub memory_words : Situation → ℕ → List ℕ
memory_words s block = option_map_or (memory_state_words (memory_text s block)) (memory_at s block) []
