-- The table of a block: a row for each of its steps that is shown.
-- Source: this project's profile.
use Rattle.std.specs.{Prelude.{ℕ, ◌+◌, ◌-◌, ◌==◌, ◌&&◌, Bool, false, List, [], ◌∷◌, ◌++◌, codes, take, Option, Some, None, if◌then◌else◌}, Fmt.decimal}
use Rattle.std.specs.{List.filter, Option.option_map_or}
use Rattle.snoop_trace.specs.{Extent.Extent, Output.address_of, declared.protocol.Protocol.Protocol}
use Rattle.snoop_model.specs.Pictures.Situation.{Situation, reset}
use Rattle.snoop_engine.specs.{Chosen.{Chosen, is_chosen, is_in_range}, Frames.Frame, Line.line_text, Numbered.{Numbered, led_to, numbered_from}}
use Rattle.snoop_engine.specs.{Views.block_of_step, Words.capitals}
use Rattle.snoop_states.specs.{declared.{column.Column.Column, widths.Widths.Widths}, Cells.cell_text, Rows.{cells_text, names_text}}

-- the step is of the block
abbrev pub is_of : ℕ → Frame → Bool
is_of block frame = option_map_or (λ b. b == block) (block_of_step frame.before frame.step) false

-- the frames of the block's steps that are shown
abbrev pub shown_of : Chosen → ℕ → List Frame → List Numbered
shown_of choice block frames = filter (λ n. is_in_range choice n.number && is_of block n.frame) (numbered_from 1 frames)

-- the block in whose table a step stands that is of this block, if any, and has this number
abbrev pub shown_block : Chosen → Option ℕ → ℕ → Option ℕ
shown_block choice None number = None
shown_block choice (Some block) number = if is_chosen choice.block block && is_in_range choice number then Some block else None

-- the machine before the first step that is chosen
abbrev pub first_shown : Chosen → Protocol → Extent → List Frame → Situation
first_shown choice protocol shape frames = led_to (reset protocol shape) (take (choice.from - 1) frames)

-- a row for each of these steps, below one of this situation
abbrev pub rows_text : Widths → Extent → ℕ → List Column → Situation → List Numbered → List ℕ
rows_text widths shape block columns above [] = []
rows_text widths shape block columns above (n ∷ ns) =
    cells_text widths columns (cell_text above block) (cell_text n.frame.after block) n.number ++ line_text shape n.frame.step n.frame.outcome
    ++ rows_text widths shape block columns n.frame.after ns

-- what stands in place of a step in the first row
abbrev pub first_line : ℕ → List ℕ
first_line from = if from == 1 then codes "at reset\n" else codes "before\n"

-- the first row, with nothing above it: the block before the first step that is chosen
abbrev pub first_row : Widths → Chosen → ℕ → List Column → Situation → List ℕ
first_row widths choice block columns start = cells_text widths columns (λ column. []) (cell_text start block) (choice.from - 1) ++ first_line choice.from

-- what stands over a table: the protocol, the block and its bytes
abbrev pub heading_text : Protocol → Extent → ℕ → List ℕ
heading_text protocol shape block =
    capitals protocol ++ codes ", block " ++ decimal block ++ codes " (bytes " ++ decimal (address_of shape block) ++ codes " to " ++ decimal (address_of shape (block + 1) - 1) ++ codes ")\n\n"

-- a block's table, if any step of it is shown
abbrev pub table_text : Widths → Chosen → Protocol → Extent → ℕ → List Column → Situation → List Numbered → List ℕ
table_text widths choice protocol shape block columns start [] = []
table_text widths choice protocol shape block columns start (n ∷ ns) =
    heading_text protocol shape block ++ names_text widths columns ++ first_row widths choice block columns start
    ++ rows_text widths shape block columns start (n ∷ ns) ++ codes "\n"
