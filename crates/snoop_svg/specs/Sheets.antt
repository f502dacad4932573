-- A sheet of a drawing: its heading, its first row, its rows and its end. All numbers are pixels.
-- Source: this project's profile.
use Rattle.std.specs.{Prelude.{ℕ, ◌+◌, ◌-◌, ◌*◌, ◌==◌, max, List, [], ◌++◌, codes, Option, Result, Ok, Err, if◌then◌else◌}, Fmt.decimal, List.flat_map}
use Rattle.snoop_trace.specs.{Extent.Extent, Output.{address_of, step_text}, declared.{protocol.Protocol.Protocol, step.Step.Step}}
use Rattle.snoop_model.specs.{Pictures.Situation.Situation, declared.replies.{Refused.Refused, Reply.Reply}}
use Rattle.snoop_engine.specs.{Line.outcome_text, Words.capitals, declared.taken.Taken.Taken, Chosen.Chosen}
use Rattle.snoop_svg.specs.declared.{columns.{Column.Column, Subject.{Subject, TheVariants.{Core, Bus, Memory}}}, paper.Form.{Form, TheVariants.{Svg, Html}}}
use Rattle.snoop_svg.specs.{declared.{paper.Paper.Paper, sizes.Sizes.Sizes}, Cells.{first_cells, next_cells}, Happenings.event_text, Legends.legend_text}
use Rattle.snoop_svg.specs.{Elements.{box, line, number, size, text, text_closed, text_opened}, Styles.style, Titles.row_title}

-- what all sheets of a drawing share: its sizes and columns, where replies begin, which steps are drawn and how many, and what it is written for
pub record Plan : Type 0 where
  pub sizes : Sizes
  pub columns : List Column
  pub replies : ℕ
  pub choice : Chosen
  pub rows : ℕ
  pub paper : Paper

-- a machine after so many steps
pub record AfterSteps : Type 0 where
  pub number : ℕ
  pub situation : Situation

-- how wide a drawing is: its legend has room in any
abbrev pub width_of : Plan → ℕ
width_of plan = 12 + max 788 (plan.replies + plan.sizes.reply)

-- the y of the row in this place of a sheet, from 0; and where so many rows end
abbrev pub row_y : ℕ → ℕ
row_y place = 82 + 54 * place

-- the rules of a drawing that stands alone
abbrev pub own_style : Paper → Form → List ℕ
own_style paper Svg = codes "<style>\n" ++ style paper.theme ++ codes "</style>\n"
own_style paper Html = []

-- the name of a column
abbrev pub name_of : Subject → List ℕ
name_of (Core block core) = codes "Core " ++ decimal core
name_of (Bus block) = codes "Bus"
name_of (Memory block) = codes "Memory"

-- a block, and its first and last byte
abbrev pub block_title : Extent → ℕ → List ℕ
block_title shape block =
    codes "Block " ++ decimal block ++ codes ", bytes " ++ decimal (address_of shape block) ++ codes " to " ++ decimal (address_of shape block + shape.block_bytes - 1)

-- what stands over a panel, and the ground of its bus, down to the bottom
abbrev pub panel_heading : Extent → ℕ → Column → Subject → List ℕ
panel_heading shape bottom column (Bus block) =
    (text_opened column.start 20 (codes "t") ++ block_title shape block ++ text_closed) ++ box column.x 64 (column.end - column.x) (bottom - 64) (codes "bus")
panel_heading shape bottom column _ = []

-- what stands over a column, and its border
abbrev pub column_heading : Extent → ℕ → Column → List ℕ
column_heading shape bottom column =
    panel_heading shape bottom column column.subject ++ (text_opened (column.x + 8) 44 (codes "s") ++ name_of column.subject ++ text_closed)
    ++ line column.x 64 column.x bottom (codes "l")

-- the beginning of an SVG, up to its size
unfoldable pub svg_opened : List ℕ
svg_opened = codes "<svg xmlns=\"http://www.w3.org/2000/svg\" viewBox=\"0 0 "

-- the beginning of a sheet that is so wide and so high
abbrev pub sheet_opened : ℕ → ℕ → List ℕ
sheet_opened width height = svg_opened ++ size width height ++ codes ">\n"

-- the beginning of a title
abbrev pub protocol_title : Protocol → List ℕ
protocol_title protocol = codes "<title>Snoop, " ++ capitals protocol ++ codes ", "

-- the title of a sheet with so many rows
abbrev pub sheet_title : Protocol → ℕ → List ℕ
sheet_title protocol rows = protocol_title protocol ++ decimal rows ++ codes " steps drawn</title>\n"

-- the ground of a sheet, and its protocol
abbrev pub ground : Protocol → ℕ → ℕ → List ℕ
ground protocol width height = box 0 0 width height (codes "paper") ++ text 12 20 (capitals protocol) (codes "s")

-- all that stands above the rows of a sheet, and behind them
abbrev pub heading_text : Plan → Protocol → Extent → ℕ → List ℕ
heading_text plan protocol shape rows =
    sheet_opened (width_of plan) (row_y rows + 70) ++ sheet_title protocol rows ++ own_style plan.paper plan.paper.form ++ ground protocol (width_of plan) (row_y rows + 70)
    ++ flat_map (column_heading shape (row_y rows)) plan.columns

-- the word of a first row that comes after so many steps
abbrev pub first_word : ℕ → List ℕ
first_word taken = if taken == 0 then codes "reset" else codes "before"

-- the words of a first row
abbrev pub first_words : Plan → ℕ → List ℕ
first_words plan taken = number plan.sizes.numbers 77 taken ++ text plan.sizes.records 77 (first_word taken) (codes "t")

-- a first row: the machine after so many steps
abbrev pub first_row : Plan → AfterSteps → List ℕ
first_row plan standing = first_words plan standing.number ++ first_cells 28 plan.columns standing.situation

-- the link that a row is
abbrev pub row_opened : ℕ → List ℕ
row_opened taken = codes "<a id=\"s" ++ decimal taken ++ codes "\" href=\"#s" ++ decimal taken ++ codes "\">\n"

-- the class of the line above a row: dotted where steps are left out
abbrev pub border : ℕ → ℕ → List ℕ
border above taken = if above + 1 == taken then codes "h" else codes "j"

-- the class of a reply
abbrev pub reply_class : Result Reply Refused → List ℕ
reply_class (Ok reply) = codes "t"
reply_class (Err cause) = codes "z"

-- the ground of a row, and the line above it
abbrev pub row_ground : ℕ → ℕ → List ℕ → List ℕ
row_ground width y class = box 0 y width 54 (codes "y") ++ line 0 y width y class

-- the words at the sides of a row: the number of its step, its record and its reply
abbrev pub captions : Plan → Extent → ℕ → ℕ → Step → Result Reply Refused → List ℕ
captions plan shape y taken step outcome =
    number plan.sizes.numbers (y + 13) taken ++ (text_opened plan.sizes.records (y + 13) (codes "s") ++ step_text shape step ++ text_closed)
    ++ (text_opened plan.replies (y + 13) (reply_class outcome) ++ outcome_text outcome ++ text_closed)

-- the beginning of the row of a step, below one that comes after so many steps
abbrev pub row_head : Plan → Extent → ℕ → ℕ → ℕ → Situation → Step → Result Reply Refused → List Taken → List ℕ
row_head plan shape y above taken s step outcome lines =
    row_opened taken ++ row_title shape taken s step outcome lines ++ row_ground (width_of plan) y (border above taken) ++ captions plan shape y taken step outcome

-- its end: what happens
abbrev pub row_end : Plan → ℕ → Situation → Option ℕ → Step → Result Reply Refused → List Taken → List ℕ
row_end plan y s of step outcome lines = event_text y plan.columns s of step outcome lines ++ codes "</a>\n"

-- the row of a step, below one that shows what stands above; the machine after the step is in s, and the step is of this block if of any
abbrev pub row_text : Plan → Extent → ℕ → AfterSteps → ℕ → Situation → Option ℕ → Step → Result Reply Refused → List Taken → List ℕ
row_text plan shape y above taken s of step outcome lines =
    row_head plan shape y above.number taken s step outcome lines ++ next_cells y plan.columns above.situation s ++ row_end plan y s of step outcome lines

-- the end of a sheet with so many rows
abbrev pub sheet_closed : Protocol → ℕ → List ℕ
sheet_closed protocol rows = legend_text protocol (row_y rows + 18) ++ codes "</svg>\n"
