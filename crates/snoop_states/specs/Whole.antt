-- The states of a run as tables: one for each block that a shown step is of, and a last line.
-- Source: this project's profile.
use Rattle.std.specs.{Prelude.{ℕ, List, [], ◌++◌, if◌then◌else◌}, List.{flat_map, range_with_len}}
use Rattle.snoop_trace.specs.{Extent.Extent, declared.protocol.Protocol.Protocol}
use Rattle.snoop_model.specs.Pictures.Situation.{Situation}
use Rattle.snoop_engine.specs.{Frames.{Frame, steps_of}, Chosen.{Chosen, is_chosen}}
use Rattle.snoop_states.specs.{declared.{column.Column.Column, widths.Widths.Widths}, AtEnd.end_text, Columns.columns_of, Widths.widths_of}
use Rattle.snoop_states.specs.Tables.{first_shown, shown_of, table_text}

-- the table of one block of the frames, if the block is shown
abbrev pub block_table : Widths → Chosen → Protocol → Extent → (ℕ → List Column) → List Frame → ℕ → List ℕ
block_table widths choice protocol shape columns frames block =
    if is_chosen choice.block block then table_text widths choice protocol shape block (columns block) (first_shown choice protocol shape frames) (shown_of choice block frames) else []

-- the tables of all blocks, and the last line
abbrev pub tables_text : Widths → Chosen → Protocol → Extent → (ℕ → List Column) → List Frame → Situation → List ℕ
tables_text widths choice protocol shape columns frames final = flat_map (block_table widths choice protocol shape columns frames) (range_with_len 0 shape.blocks) ++ end_text final

-- the whole text: widths and columns are those of all steps
abbrev pub states_table_text : Protocol → Extent → Chosen → List Frame → Situation → List ℕ
states_table_text protocol shape choice frames final =
    tables_text (widths_of shape (steps_of frames)) choice protocol shape (columns_of shape (steps_of frames)) frames final
