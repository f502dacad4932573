-- What happens in a panel at a step.
-- Source: this project's profile.
use Rattle.std.specs.Prelude.{ℕ, ◌==◌, ◌&&◌, Bool, true, false, List, ◌∷◌, Option, Some, None, Result, Ok, Err, nat_lt, if◌then◌else◌}
use Rattle.snoop_trace.specs.declared.{step.Step.{Step, TheVariants.{Ask, Order, Respond}}, protocol.Protocol.Protocol}
use Rattle.snoop_rules.specs.{Cell.{cell_of, is_hit}, declared.names.{CacheCell.CacheCell, CacheState.CacheState}}
use Rattle.snoop_rules.specs.declared.names.CacheEvent.TheVariants.{Load, Store}
use Rattle.snoop_rules.specs.declared.names.CacheState.TheVariants as state
use Rattle.snoop_model.specs.declared.replies.{Reply.Reply, Refused.Refused}
use Rattle.snoop_model.specs.declared.replies.Reply.TheVariants.{Issued as WasIssued}
use Rattle.snoop_engine.specs.declared.taken.Taken.{Taken}
use Rattle.snoop_engine.specs.declared.taken.Taken.TheVariants as line
use Rattle.snoop_draw.specs.declared.{event.Event.{Event, TheVariants.{Before, Nothing, Asked, Ordered, Barred, Came, Missing}}, marks.Mark.Mark}
use Rattle.snoop_draw.specs.declared.marks.Mark.TheVariants as sign

-- the mark of an Ask, by what is answered
abbrev pub ask_mark : Result Reply Refused → Mark
ask_mark (Ok (WasIssued request)) = sign.Issued
ask_mark (Ok answer) = sign.Done
ask_mark (Err cause) = sign.Refused

-- the core that takes the response: it stands first among the lines of a Respond
abbrev pub requestor_in : List Taken → Option ℕ
requestor_in (line.Core core block event before ∷ lines) = Some core
requestor_in _ = None

-- what happens at a step, in the panel of its block
abbrev pub event_of : Step → Result Reply Refused → List Taken → Event
event_of (Ask core block word op) outcome lines = Asked core (ask_mark outcome)
event_of (Order core) (Ok answer) lines = Ordered core
event_of (Order core) (Err cause) lines = Barred core
event_of (Respond block) (Ok answer) lines = Came (requestor_in lines)
event_of (Respond block) (Err cause) lines = Missing

-- something is of this number
abbrev pub is_of : Option ℕ → ℕ → Bool
is_of None number = false
is_of (Some named) number = named == number

-- what happens in the panel of this block at a step, which may be of another or of none
abbrev pub event_in : ℕ → Option ℕ → Step → Result Reply Refused → List Taken → Event
event_in block of step outcome lines = if is_of of block then event_of step outcome lines else Nothing

-- the line is of this core and this block
abbrev pub names_core : ℕ → ℕ → Taken → Bool
names_core block core (line.Core named of event before) = (named == core) && (of == block)
names_core block core _ = false

-- the line is of memory and this block
abbrev pub names_memory : ℕ → Taken → Bool
names_memory block (line.Memory of event before) = of == block
names_memory block _ = false

-- there is a row, and it is a hit
abbrev pub is_hit_row : Option CacheCell → Bool
is_hit_row None = false
is_hit_row (Some row) = is_hit row.action

-- what a core in this state may do with the block: store, or at least load, where that is a hit
abbrev pub may : Protocol → CacheState → Mark
may protocol held = if is_hit_row (cell_of protocol held Store) then sign.MayWrite else (if is_hit_row (cell_of protocol held Load) then sign.MayRead else sign.Blank)

-- what a core in this state waits for
abbrev pub awaits : CacheState → Mark
awaits state.IsAd = sign.AwaitsOrder
awaits state.ImAd = sign.AwaitsOrder
awaits state.SmAd = sign.AwaitsOrder
awaits state.MiA = sign.AwaitsOrder
awaits state.EiA = sign.AwaitsOrder
awaits state.IiA = sign.AwaitsOrder
awaits state.IsD = sign.AwaitsData
awaits state.ImD = sign.AwaitsData
awaits state.SmD = sign.AwaitsData
awaits _ = sign.Blank

-- what the core does in the event, or waits for
abbrev pub rail : Event → Option ℕ → ℕ → CacheState → Mark
rail (Asked asking mark) sender core held = if asking == core then mark else awaits held
rail (Ordered requestor) sender core held = if requestor == core then sign.Ordered else (if is_of sender core then sign.Sends else awaits held)
rail (Came requestor) sender core held = if is_of requestor core then sign.Gets else awaits held
rail _ sender core held = awaits held

-- a wire that begins at a core with a lower number
abbrev pub wire_from : ℕ → ℕ → Mark → Mark
wire_from start core wire = if nat_lt start core then wire else sign.Blank

-- the wire that runs to the bus from a core with a lower number
abbrev pub wire_at : Event → ℕ → Mark
wire_at (Ordered start) core = wire_from start core sign.Wire
wire_at (Barred start) core = wire_from start core sign.Broken
wire_at (Came (Some start)) core = wire_from start core sign.Wire
wire_at _ core = sign.Blank

-- everything is shown
abbrev pub shows_all : Event → Bool
shows_all Before = true
shows_all _ = false

-- the bus says which transaction is open
abbrev pub shows_bus : Event → Bool
shows_bus Before = true
shows_bus (Ordered core) = true
shows_bus _ = false

-- where the wire meets the bus
abbrev pub tip : Event → Mark
tip (Ordered core) = sign.Tip
tip (Barred core) = sign.Refused
tip (Came (Some core)) = sign.Wire
tip Missing = sign.Refused
tip _ = sign.Blank
