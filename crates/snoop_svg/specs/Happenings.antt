-- What happens at a step, in the panel of its block.
-- Source: this project's profile.
use Rattle.std.specs.{Prelude.{ℕ, ◌+◌, ◌-◌, Bool, true, false, List, [], ◌++◌, codes, Option, Some, None, Result, Ok, Err, if◌then◌else◌}, Fmt.decimal}
use Rattle.std.specs.List.{list_any}
use Rattle.snoop_trace.specs.declared.step.{Op.{Op, TheVariants.{Load, Store, Evict}}, Step.{Step, TheVariants.{Ask, Order, Respond}}}
use Rattle.snoop_rules.specs.{declared.names.{Payload.Payload, Request.Request}, Names.{payload_name, request_name}}
use Rattle.snoop_history.specs.declared.items.Did.{Did}
use Rattle.snoop_bus.specs.Traffic.{Open}
use Rattle.snoop_model.specs.{Pictures.Situation.{Situation, picture_of}, Texts.reply_text, declared.replies.{Refused.Refused, Reply.Reply}}
use Rattle.snoop_model.specs.declared.replies.Reply.TheVariants.{Came, Hit, Issued, StoreHit}
use Rattle.snoop_engine.specs.declared.taken.Taken.{Taken}
use Rattle.snoop_draw.specs.Events.{names_memory}
use Rattle.snoop_svg.specs.{declared.columns.{Column.Column, Subject.TheVariants.{Core, Bus, Memory}}, Cells.rail_of, Layout.column_for}
use Rattle.snoop_svg.specs.Elements.{cross, dot, left_arrow, line, operation_opened, right_arrow, text, text_closed, text_opened}

-- the Ask is a hit
abbrev pub is_hit : Result Reply Refused → Bool
is_hit (Ok (Hit value)) = true
is_hit (Ok StoreHit) = true
is_hit _ = false

-- the class of an operation's square: full where it is performed
abbrev pub square : Bool → List ℕ
square is_done = if is_done then codes "done" else codes "ask"

-- what a core asks for
abbrev pub asked_text : ℕ → ℕ → Op → Bool → List ℕ
asked_text x y Load is_done = operation_opened x y (square is_done) ++ codes "load" ++ text_closed
asked_text x y (Store value) is_done = operation_opened x y (square is_done) ++ codes "store " ++ decimal value ++ text_closed
asked_text x y Evict is_done = text (x + 8) (y + 13) (codes "evict") (codes "o")

-- what an Ask is answered
abbrev pub answer_words : Result Reply Refused → List ℕ
answer_words (Ok reply) = reply_text reply
answer_words (Err cause) = codes "stall"

-- the mark of an answer: a cross at a stall, a ring where a request was issued
abbrev pub answer_mark : ℕ → Column → Result Reply Refused → List ℕ
answer_mark y column (Err cause) = cross (column.x + 58) (y + 27)
answer_mark y column (Ok (Issued request)) = dot (rail_of column) y (codes "i")
answer_mark y column _ = []

-- an Ask, at the column of its core
abbrev pub ask_text : ℕ → Option Column → Op → Result Reply Refused → List ℕ
ask_text y None op outcome = []
ask_text y (Some column) op outcome =
    asked_text column.x y op (is_hit outcome) ++ (text_opened (column.x + 8) (y + 31) (codes "a") ++ answer_words outcome ++ text_closed) ++ answer_mark y column outcome

-- the name of a message, in this column
abbrev pub payload_text : ℕ → ℕ → Payload → List ℕ
payload_text x y payload = text (x + 8) (y + 31) (payload_name payload) (codes "a")

-- memory sends the message to the bus
abbrev pub from_memory : ℕ → Column → Column → Payload → List ℕ
from_memory y bus memory payload = payload_text memory.x y payload ++ left_arrow (memory.x + 4) bus.end (y + 19) (codes "g")

-- a core sends it
abbrev pub from_core : ℕ → Column → Option Column → Payload → List ℕ
from_core y bus None payload = []
from_core y bus (Some sender) payload = payload_text sender.x y payload ++ right_arrow (rail_of sender) bus.x (y + 19) (codes "g")

-- the message of a transaction leaves its sender
abbrev pub sent_text : ℕ → List Column → ℕ → Column → Column → Option ℕ → Payload → List ℕ
sent_text y columns block bus memory None payload = from_memory y bus memory payload
sent_text y columns block bus memory (Some sender) payload = from_core y bus (column_for (Core block sender) columns) payload

-- the name of a request, in this column
abbrev pub request_text : ℕ → ℕ → Request → List ℕ
request_text x y request = text (x + 8) (y + 13) (request_name request) (codes "o")

-- a line across a panel, and an arrow from a rail to the bus
abbrev pub ray : ℕ → ℕ → ℕ → ℕ → ℕ → List ℕ
ray y start rail bus end = line start y end y (codes "u") ++ right_arrow rail bus y (codes "p") ++ dot rail y (codes "p")

-- the order of a request
abbrev pub order_line : ℕ → Column → Column → Column → Request → List ℕ
order_line y column bus memory request = request_text column.x y request ++ ray y column.start (rail_of column) bus.x memory.end

-- the transaction is opened
abbrev pub opened_text : ℕ → List Column → ℕ → Option Column → Option Column → Option Column → Open → List ℕ
opened_text y columns block (Some column) (Some bus) (Some memory) opened = order_line y column bus memory opened.request ++ sent_text y columns block bus memory opened.from opened.payload
opened_text y columns block _ _ _ opened = []

-- an Order that is taken, by the transaction that is open after it
abbrev pub ordered_text : ℕ → List Column → ℕ → ℕ → Option Open → List ℕ
ordered_text y columns block core None = []
ordered_text y columns block core (Some opened) = opened_text y columns block (column_for (Core block core) columns) (column_for (Bus block) columns) (column_for (Memory block) columns) opened

-- a broken line that ends before the bus, and a cross there
abbrev pub barrier : ℕ → ℕ → ℕ → List ℕ
barrier rail bus y = line rail y (bus - 8) y (codes "v") ++ cross (bus - 4) y

-- an Order that has to wait for the bus
abbrev pub barred_text : ℕ → Option Column → Option Column → List ℕ
barred_text y (Some column) (Some bus) = text (column.x + 8) (y + 13) (codes "bus taken") (codes "o") ++ barrier (rail_of column) bus.x y
barred_text y _ _ = []

-- an Order, which is of this block if of any
abbrev pub order_text : ℕ → List Column → Situation → Option ℕ → ℕ → Result Reply Refused → List ℕ
order_text y columns s None core outcome = []
order_text y columns s (Some block) core (Ok reply) = ordered_text y columns block core (picture_of s block).transaction
order_text y columns s (Some block) core (Err cause) = barred_text y (column_for (Core block core) columns) (column_for (Bus block) columns)

-- the name of an operation
abbrev pub operation_name : Bool → List ℕ
operation_name is_load = if is_load then codes "load " else codes "store "

-- the operation that a response performs
abbrev pub performed_text : ℕ → ℕ → Did → List ℕ
performed_text x y did = operation_opened x y (codes "done") ++ operation_name did.load ++ decimal did.value ++ text_closed

-- the end of a rail at this height, where an arrow comes from the bus
abbrev pub arriving_arrow : ℕ → ℕ → ℕ → List ℕ
arriving_arrow y rail bus = line rail y rail (y + 19) (codes "d") ++ left_arrow bus rail (y + 19) (codes "g")

-- the message arrives at the requestor
abbrev pub to_core : ℕ → Option Column → Option Column → Payload → Did → List ℕ
to_core y (Some column) (Some bus) payload did =
    performed_text column.x y did ++ payload_text column.x y payload ++ arriving_arrow y (rail_of column) bus.x
to_core y _ _ payload did = []

-- the message arrives at the core that performs an operation by it, if any
abbrev pub to_requestor : ℕ → List Column → ℕ → Payload → Option Did → List ℕ
to_requestor y columns block payload None = []
to_requestor y columns block payload (Some did) = to_core y (column_for (Core block did.core) columns) (column_for (Bus block) columns) payload did

-- the message arrives at memory, if it takes it
abbrev pub to_memory : ℕ → Option Column → Option Column → Payload → Bool → List ℕ
to_memory y (Some bus) (Some memory) payload true = payload_text memory.x y payload ++ right_arrow bus.end memory.x (y + 19) (codes "g")
to_memory y _ _ payload is_met = []

-- there is no transaction whose message could arrive
abbrev pub missing_text : ℕ → Option Column → List ℕ
missing_text y None = []
missing_text y (Some bus) = cross (bus.x + 12) (y + 13)

-- a Respond
abbrev pub respond_text : ℕ → List Column → ℕ → Result Reply Refused → Bool → List ℕ
respond_text y columns block (Ok (Came payload from did)) is_met =
    to_requestor y columns block payload did ++ to_memory y (column_for (Bus block) columns) (column_for (Memory block) columns) payload is_met
respond_text y columns block (Ok reply) is_met = []
respond_text y columns block (Err cause) is_met = missing_text y (column_for (Bus block) columns)

-- what happens at a step, which is of this block if of any, by the machine after it and the rows that the controllers take
abbrev pub event_text : ℕ → List Column → Situation → Option ℕ → Step → Result Reply Refused → List Taken → List ℕ
event_text y columns s of (Ask core block word op) outcome lines = ask_text y (column_for (Core block core) columns) op outcome
event_text y columns s of (Order core) outcome lines = order_text y columns s of core outcome
event_text y columns s of (Respond block) outcome lines = respond_text y columns block outcome (list_any (names_memory block) lines)
