-- The states of a run as a text of fields: for each step that is shown a line for each controller that takes a row of its table.
-- Source: the fields and their form are this project's profile.
use Rattle.std.specs.{Prelude.{ℕ, ◌==◌, ◌&&◌, List, [], ◌++◌, codes, Option, Some, None, Result, Ok, option_map, nat_lt, if◌then◌else◌}, Fmt.decimal}
use Rattle.std.specs.{List.{flat_map, range_with_len}, Option.option_map_or}
use Rattle.snoop_trace.specs.{Extent.Extent, Output.step_text, Words.word_at, declared.{step.Step.Step, protocol.Protocol.Protocol}}
use Rattle.snoop_rules.specs.{declared.names.{CacheState.CacheState, CacheEvent.CacheEvent, MemState.MemState, MemEvent.MemEvent}, Cell.cell_of}
use Rattle.snoop_rules.specs.{MemoryCell.memory_cell_of, Names.{action_text, event_name, memory_action_text, memory_event_name, memory_state_name, state_name}}
use Rattle.snoop_bus.specs.Queues.{place_in, queue_of}
use Rattle.snoop_model.specs.declared.replies.{Reply.{Reply, TheVariants.Came}, Refused.Refused}
use Rattle.snoop_model.specs.Pictures.Situation.{Situation, picture_of, held_of}
use Rattle.snoop_engine.specs.{Chosen.{Chosen, is_shown}, Line.outcome_text, Frames.Frame, Numbered.numbered_from, Taken.{lines_of_step, memory_at, state_at}}
use Rattle.snoop_engine.specs.{Views.block_of_step, declared.taken.Taken.{Taken, TheVariants.{Core, Memory, Nobody}}}

-- the value of a word that the core keeps, where all of them are there
abbrev pub kept_at : Situation → ℕ → ℕ → ℕ → Option ℕ
kept_at s core block word =
    if nat_lt core s.shape.cores && nat_lt block s.shape.blocks && nat_lt word s.shape.words then option_map (λ ws. word_at ws word) (held_of s core block).kept else None

-- memory's value of a word, where it is there
abbrev pub memory_value_at : Situation → ℕ → ℕ → Option ℕ
memory_value_at s block word =
    if nat_lt block s.shape.blocks && nat_lt word s.shape.words then Some (word_at (picture_of s block).memory.value word) else None

-- a number, or an empty field
abbrev pub number_field : Option ℕ → List ℕ
number_field None = []
number_field (Some number) = decimal number

-- a core as a controller, or an empty field
abbrev pub core_field : Option ℕ → List ℕ
core_field None = []
core_field (Some core) = codes "core " ++ decimal core

-- the value of one word among others, which a space parts
abbrev pub value_text : ℕ → Option ℕ → List ℕ
value_text word None = []
value_text word (Some value) = (if word == 0 then [] else codes " ") ++ decimal value

-- the values that the core keeps
abbrev pub kept_text : Situation → ℕ → ℕ → List ℕ
kept_text s core block = flat_map (λ word. value_text word (kept_at s core block word)) (range_with_len 0 s.shape.words)

-- memory's values
abbrev pub memory_text : Situation → ℕ → List ℕ
memory_text s block = flat_map (λ word. value_text word (memory_value_at s block word)) (range_with_len 0 s.shape.words)

-- the place of the block in the core's queue, from 1, where it stands there
abbrev pub place_text : Situation → ℕ → ℕ → List ℕ
place_text s core block = number_field (place_in (queue_of s.queues core) block)

-- what a core does at its event, by its table
abbrev pub done_text : Protocol → CacheState → Option CacheEvent → List ℕ
done_text protocol before None = []
done_text protocol before (Some event) = option_map_or (λ cell. action_text cell.action) (cell_of protocol before event) []

-- what memory does at its event, by its table
abbrev pub memory_done_text : Protocol → MemState → MemEvent → List ℕ
memory_done_text protocol before event = option_map_or (λ cell. memory_action_text cell.action) (memory_cell_of protocol before event) []

-- a core's event, its state before it, and what it does
abbrev pub met_text : Protocol → Option CacheEvent → CacheState → List ℕ
met_text protocol event before = option_map_or event_name event [] ++ codes "," ++ state_name before ++ codes "," ++ done_text protocol before event ++ codes ","

-- a core's state of the block now, its values and its place in the queue
abbrev pub now_text : Situation → ℕ → ℕ → List ℕ
now_text s core block = option_map_or state_name (state_at s core block) [] ++ codes "," ++ kept_text s core block ++ codes "," ++ place_text s core block ++ codes "\n"

-- memory's event, its state before it, and what it does
abbrev pub memory_met_text : Protocol → MemEvent → MemState → List ℕ
memory_met_text protocol event before = memory_event_name event ++ codes "," ++ memory_state_name before ++ codes "," ++ memory_done_text protocol before event ++ codes ","

-- memory's state of the block now, and its values; it has no queue
abbrev pub memory_now_text : Situation → ℕ → List ℕ
memory_now_text s block = option_map_or memory_state_name (memory_at s block) [] ++ codes "," ++ memory_text s block ++ codes ",\n"

-- the fields of one controller, by the machine after the step
abbrev pub taken_text : Situation → Taken → List ℕ
taken_text s (Core core block event before) = decimal block ++ codes ",core " ++ decimal core ++ codes "," ++ met_text s.protocol event before ++ now_text s core block
taken_text s (Memory block event before) = decimal block ++ codes ",memory," ++ memory_met_text s.protocol event before ++ memory_now_text s block
taken_text s (Nobody core block) = number_field block ++ codes "," ++ core_field core ++ codes ",,,,,,\n"

-- what was answered, in quotes where it has a comma
abbrev pub reply_field : Result Reply Refused → List ℕ
reply_field (Ok (Came payload from (Some did))) = codes "\"" ++ outcome_text (Ok (Came payload from (Some did))) ++ codes "\""
reply_field outcome = outcome_text outcome

-- the fields of the step itself: its number, its record, which has a comma, and what was answered
abbrev pub step_fields : Extent → ℕ → Step → Result Reply Refused → List ℕ
step_fields shape number step outcome = decimal number ++ codes ",\"" ++ step_text shape step ++ codes "\"," ++ reply_field outcome ++ codes ","

-- the lines of a step
abbrev pub frame_text : Extent → ℕ → Frame → List ℕ
frame_text shape number frame =
    flat_map (λ taken. step_fields shape number frame.step frame.outcome ++ taken_text frame.after taken) (lines_of_step frame.before frame.step frame.outcome)

-- the lines of a step, if it is shown
abbrev pub shown_text : Extent → Chosen → ℕ → Frame → List ℕ
shown_text shape choice number frame = if is_shown choice (block_of_step frame.before frame.step) number then frame_text shape number frame else []

-- the lines of those steps that are shown, where the first step has this number
abbrev pub shown_texts : Extent → Chosen → ℕ → List Frame → List ℕ
shown_texts shape choice number frames = flat_map (λ n. shown_text shape choice n.number n.frame) (numbered_from number frames)

-- the names of the fields
abbrev pub header_text : List ℕ
header_text = codes "step,record,reply,block,controller,event,before,action,after,value,place\n"

-- the states of a run as a text: the names of the fields, and then the lines of each step that is shown
abbrev pub states_text : Extent → Chosen → List Frame → List ℕ
states_text shape choice frames = header_text ++ shown_texts shape choice 1 frames
