-- The title of a row: the line of its step, and the rows of the tables that the controllers take.
-- Source: this project's profile.
use Rattle.std.specs.{Prelude.{ℕ, List, [], ◌++◌, codes, Some, None, Result}, Fmt.decimal, List.flat_map, Option.option_map_or}
use Rattle.snoop_trace.specs.{Extent.Extent, Output.step_text, declared.step.Step.Step}
use Rattle.snoop_rules.specs.declared.names.{CacheEvent.CacheEvent, CacheState.CacheState, MemEvent.MemEvent, MemState.MemState}
use Rattle.snoop_rules.specs.Names.{event_name, memory_event_name, memory_state_name, state_name}
use Rattle.snoop_model.specs.{Pictures.Situation.Situation, declared.replies.{Refused.Refused, Reply.Reply}}
use Rattle.snoop_engine.specs.{Line.outcome_text, States.{done_text, memory_done_text}, Taken.{memory_at, state_at}, declared.taken.Taken.Taken}
use Rattle.snoop_engine.specs.declared.taken.Taken.TheVariants.{Core, Memory, Nobody}

-- the row of a core: its state before, what it meets and does, and its state now
abbrev pub core_row : Situation → ℕ → ℕ → CacheEvent → CacheState → List ℕ
core_row s core block event before =
    codes "\ncore " ++ decimal core ++ codes ": " ++ state_name before ++ codes "," ++ event_name event ++ codes "," ++ done_text s.protocol before (Some event) ++ codes ","
    ++ option_map_or state_name (state_at s core block) []

-- the row of memory
abbrev pub memory_row : Situation → ℕ → MemEvent → MemState → List ℕ
memory_row s block event before =
    codes "\nmemory: " ++ memory_state_name before ++ codes "," ++ memory_event_name event ++ codes "," ++ memory_done_text s.protocol before event ++ codes ","
    ++ option_map_or memory_state_name (memory_at s block) []

-- the row that a controller takes, by the machine after the step; none where it meets nothing
abbrev pub taken_row : Situation → Taken → List ℕ
taken_row s (Core core block None before) = []
taken_row s (Core core block (Some event) before) = core_row s core block event before
taken_row s (Memory block event before) = memory_row s block event before
taken_row s (Nobody core block) = []

-- the line of a step, without its end
abbrev pub step_line : Extent → Step → Result Reply Refused → List ℕ
step_line shape step outcome = step_text shape step ++ codes ": " ++ outcome_text outcome

-- the title of a step's row
abbrev pub row_title : Extent → ℕ → Situation → Step → Result Reply Refused → List Taken → List ℕ
row_title shape number s step outcome lines =
    codes "<title>" ++ decimal number ++ codes ". " ++ step_line shape step outcome ++ flat_map (taken_row s) lines ++ codes "</title>\n"
