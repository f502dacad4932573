-- What a line shows of one panel.
-- Source: this project's profile.
use Rattle.std.specs.{Prelude.{ℕ, ◌+◌, ◌||◌, Bool, List, [], ◌++◌, codes, Option, Some, None, is_none, unwrap_or, if◌then◌else◌}, List.{flat_map, list_any}}
use Rattle.snoop_rules.specs.declared.names.CacheState.{CacheState, TheVariants.I}
use Rattle.snoop_bus.specs.Traffic.{Open}
use Rattle.snoop_model.specs.Pictures.Situation.{Situation, picture_of}
use Rattle.snoop_engine.specs.{Taken.state_at, declared.taken.Taken.Taken, Words.{core_words, memory_words}}
use Rattle.snoop_draw.specs.declared.{cells.{Cell.Cell, Link.Link, Style.Style}, event.Event.{Event, TheVariants.{Ordered, Came}}, marks.Mark.TheVariants.Blank}
use Rattle.snoop_draw.specs.declared.cells.Link.TheVariants as link
use Rattle.snoop_draw.specs.{Cells.{cell_text, field_text, link_text}, Events.{may, names_core, names_memory, rail, shows_all, shows_bus, tip, wire_at}}
use Rattle.snoop_draw.specs.{Marks.mark_text, Panels.Panel, Words.bus_words}

-- the state in which the core holds the block
abbrev pub held_in : Situation → ℕ → ℕ → CacheState
held_in s block core = unwrap_or (state_at s core block) I

-- the core that sent the message, if a transaction is open and a core did
abbrev pub sender_in : Option Open → Option ℕ
sender_in None = None
sender_in (Some opened) = opened.from

-- what stands around the words of a core
abbrev pub core_cell : Situation → ℕ → Event → Option ℕ → ℕ → Cell
core_cell s block event sender core =
    record { mark = may s.protocol (held_in s block core); rail = rail event sender core (held_in s block core); wire = wire_at event core; next = wire_at event (core + 1) }

-- a core says something where it takes a row, or where everything is shown
abbrev pub shows_core : ℕ → Event → List Taken → ℕ → Bool
shows_core block event lines core = shows_all event || list_any (names_core block core) lines

-- memory says something where it takes a row, or where everything is shown
abbrev pub shows_memory : ℕ → Event → List Taken → Bool
shows_memory block event lines = shows_all event || list_any (names_memory block) lines

-- what a core says in the line
abbrev pub core_said : Situation → ℕ → Event → List Taken → ℕ → List ℕ
core_said s block event lines core = if shows_core block event lines core then core_words 2 s block core else []

-- what the bus says in the line
abbrev pub bus_said : Situation → ℕ → Event → List ℕ
bus_said s block event = if shows_bus event then bus_words s block else []

-- what memory says in the line
abbrev pub memory_said : Situation → ℕ → Event → List Taken → List ℕ
memory_said s block event lines = if shows_memory block event lines then memory_words s block else []

-- memory sends at an Order whose message no core sends, and takes the message of a Respond at which it takes a row
abbrev pub link_of : Event → Bool → Bool → Link
link_of (Ordered core) is_from_memory is_met = if is_from_memory then link.FromMemory else link.Nothing
link_of (Came core) is_from_memory is_met = if is_met then link.ToMemory else link.Nothing
link_of _ is_from_memory is_met = link.Nothing

-- the column of a core
abbrev pub core_text : Style → Situation → ℕ → Event → Option ℕ → List Taken → ℕ → List ℕ
core_text style s block event sender lines core =
    cell_text style.charset style.widths.core (core_cell s block event sender core) (core_said s block event lines core)

-- the column of the bus
abbrev pub bus_text : Style → Situation → ℕ → Event → Option ℕ → List Taken → List ℕ
bus_text style s block event sender lines =
    mark_text style.charset (tip event) ++ field_text style.charset Blank style.widths.bus (bus_said s block event)
    ++ link_text style.charset (link_of event (is_none sender) (list_any (names_memory block) lines))

-- the column of memory
abbrev pub memory_column : Style → Situation → ℕ → Event → List Taken → List ℕ
memory_column style s block event lines = field_text style.charset Blank style.widths.memory (memory_said s block event lines)

-- what a line shows of a block: the column of each of these cores, the bus, and memory
abbrev pub moment_text : Style → Situation → ℕ → Event → Option ℕ → List Taken → List ℕ → List ℕ
moment_text style s block event sender lines cores =
    codes " " ++ flat_map (core_text style s block event sender lines) cores ++ bus_text style s block event sender lines ++ memory_column style s block event lines

-- what a line shows of a panel
abbrev pub panel_text : Style → Situation → Event → List Taken → Panel → List ℕ
panel_text style s event lines panel = moment_text style s panel.block event (sender_in (picture_of s panel.block).transaction) lines panel.cores
