-- The drawing of a run: a row for each step that is drawn, in sheets.
-- Source: this project's profile.
use Rattle.std.specs.Prelude.{ℕ, ◌+◌, ◌-◌, ◌%◌, ◌==◌, ◌&&◌, ◌≡◌, ◌≤◌, Bool, List, [], ◌∷◌, ◌++◌, length, min, nat_lt, take, if◌then◌else◌}
use Rattle.std.specs.List.{filter}
use Rattle.snoop_trace.specs.{Extent.Extent, declared.{protocol.Protocol.Protocol, step.Step.Step}}
use Rattle.snoop_model.specs.Pictures.Situation.{Situation, reset}
use Rattle.snoop_engine.specs.{Chosen.{Chosen, is_shown}, Frames.{Frame, steps_of}, Numbered.{Numbered, led_to, numbered_from}, Taken.lines_of_step}
use Rattle.snoop_engine.specs.Views.{block_of_step, view_text}
use Rattle.snoop_draw.specs.Panels.{panels_for}
use Rattle.snoop_svg.specs.{declared.{drawing.Drawing.Drawing, paper.{Form.{Form, TheVariants.{Svg, Html}}, Paper.Paper}}, Looks.cells_at}
use Rattle.snoop_svg.specs.{Layout.{after_panels, columns_from, sizes_for}, Sheets.{Plan, AfterSteps, first_row, heading_text, row_text, row_y, sheet_closed}}
use Rattle.snoop_svg.specs.Styles.{page_end, page_head}

-- the step of a frame is drawn
abbrev pub has_row : Chosen → Numbered → Bool
has_row choice n = is_shown choice (block_of_step n.frame.before n.frame.step) n.number

-- the frames whose steps are drawn
abbrev pub drawn : Chosen → List Frame → List Numbered
drawn choice frames = filter (has_row choice) (numbered_from 1 frames)

-- the first row: the machine before the first step that may be drawn
abbrev pub first_above : Chosen → Protocol → Extent → List Frame → AfterSteps
first_above choice protocol shape frames = record { number = choice.from - 1; situation = led_to (reset protocol shape) (take (choice.from - 1) frames) }

-- what the last of these rows shows, or the one above them
abbrev pub last_above : AfterSteps → List Numbered → AfterSteps
last_above above [] = above
last_above above (n ∷ ns) = last_above (record { number = n.number; situation = n.frame.after }) ns

-- what the row above the next one shows
abbrev pub row_above : Chosen → Protocol → Extent → List Frame → AfterSteps
row_above choice protocol shape frames = last_above (first_above choice protocol shape frames) (drawn choice frames)

-- the most cells of a drawing
abbrev pub most_cells : ℕ
most_cells = 20000

-- how many rows a sheet has at most: an SVG is one sheet, since no drawing has more rows than cells
abbrev pub rows_per_sheet : Form → ℕ
rows_per_sheet Svg = most_cells
rows_per_sheet Html = 24

-- how many rows the sheet has that begins after so many
abbrev pub sheet_rows : Plan → ℕ → ℕ
sheet_rows plan done = min (rows_per_sheet plan.paper.form) (plan.rows - done)

-- so many rows fill a sheet
abbrev pub is_full : Plan → ℕ → Bool
is_full plan place = nat_lt 0 place && (place % rows_per_sheet plan.paper.form == 0)

-- the end of a full sheet, and the heading of the next
abbrev pub turned : Plan → Protocol → Extent → ℕ → List ℕ
turned plan protocol shape place = sheet_closed protocol (rows_per_sheet plan.paper.form) ++ heading_text plan protocol shape (sheet_rows plan place)

-- before the next row: where the sheet is full its end, and the beginning of another
abbrev pub turn_text : Plan → Protocol → Extent → ℕ → AfterSteps → List ℕ
turn_text plan protocol shape place above = if is_full plan place then (turned plan protocol shape place ++ first_row plan above) else []

-- the row of a step in this place of all rows, if it is shown
abbrev pub placed_row : Plan → Protocol → Extent → ℕ → AfterSteps → Numbered → List ℕ
placed_row plan protocol shape place above n =
    if nat_lt place plan.paper.shown then
    (turn_text plan protocol shape place above
    ++ row_text plan shape (row_y (place % rows_per_sheet plan.paper.form)) above n.number n.frame.after (block_of_step n.frame.before n.frame.step) n.frame.step n.frame.outcome (lines_of_step n.frame.before n.frame.step n.frame.outcome))
    else []

-- what is drawn of a frame, by those before it: after the last step that is not drawn the first row, and for a step that is drawn its row
abbrev pub frame_text : Plan → Protocol → Extent → List Frame → Numbered → List ℕ
frame_text plan protocol shape seen n =
    if n.number + 1 == plan.choice.from then first_row plan (record { number = n.number; situation = n.frame.after })
    else (if has_row plan.choice n then placed_row plan protocol shape (length (drawn plan.choice seen)) (row_above plan.choice protocol shape seen) n else [])

-- what stands before the first sheet
abbrev pub head_text : Paper → Form → List ℕ
head_text paper Svg = []
head_text paper Html = page_head paper.theme

-- what stands behind the last sheet
abbrev pub tail_text : Form → List ℕ
tail_text Svg = []
tail_text Html = page_end

-- all that stands before the first row
abbrev pub opening : Plan → Protocol → Extent → List ℕ
opening plan protocol shape = head_text plan.paper plan.paper.form ++ heading_text plan protocol shape (sheet_rows plan 0)

-- what is drawn before any step: the heading, and the first row if the first step may be drawn
abbrev pub beginning_text : Plan → Protocol → Extent → List ℕ
beginning_text plan protocol shape =
    opening plan protocol shape ++ (if plan.choice.from == 1 then first_row plan (record { number = 0; situation = reset protocol shape }) else [])

-- how many rows the sheets before that of the last of so many rows have
abbrev pub sheet_start : Plan → ℕ → ℕ
sheet_start plan place = place - 1 - (place - 1) % rows_per_sheet plan.paper.form

-- all that stands behind the last of so many rows: the end of its sheet, and what stands behind the last sheet
abbrev pub closing : Plan → Protocol → ℕ → List ℕ
closing plan protocol place = sheet_closed protocol (sheet_rows plan (sheet_start plan place)) ++ tail_text plan.paper.form

-- what is drawn after all steps, so many of which are drawn
abbrev pub ending_text : Plan → Protocol → ℕ → List ℕ
ending_text plan protocol rows = closing plan protocol (min rows plan.paper.shown)

-- the drawing of a run by a plan
abbrev pub planned_text : Plan → Protocol → Extent → List Frame → Situation → List ℕ
planned_text plan protocol shape =
    view_text (beginning_text plan protocol shape) (λ seen frame. frame_text plan protocol shape seen (record { number = 1 + length seen; frame = frame }))
    (λ frames final. ending_text plan protocol (length (drawn plan.choice frames)))

-- the plan of a drawing of these steps that has so many rows
abbrev pub plan_for : Extent → Chosen → Paper → List Step → ℕ → Plan
plan_for shape choice paper steps rows =
    let sizes = sizes_for shape steps in
    let panels = panels_for shape steps choice.block in
    record {
      sizes = sizes;
      columns = columns_from sizes sizes.panels panels;
      replies = after_panels sizes sizes.panels panels;
      choice = choice;
      rows = rows;
      paper = paper;
    }

-- the whole drawing of the frames of a run
abbrev pub drawing_text : Protocol → Extent → Chosen → Paper → List Frame → Situation → List ℕ
drawing_text protocol shape choice paper frames = planned_text (plan_for shape choice paper (steps_of frames) (length (drawn choice frames))) protocol shape frames

-- the drawing stands below this row
pub record StandsBelow (now : Drawing) (above : AfterSteps) : Type 0 where
  pub number : now.above ≡ above.number
  pub cells : now.cells.items ≡ cells_at above.situation now.plan.columns

-- the drawing that was begun has seen these frames, and is this now
pub record HasSeen (first : Drawing) (protocol : Protocol) (shape : Extent) (frames : List Frame) (now : Drawing) : Type 0 where
  pub plan : now.plan ≡ first.plan
  pub place : now.place ≡ min (length (drawn now.plan.choice frames)) now.plan.paper.shown
  pub above : now.plan.choice.from ≤ 1 + length frames → length (drawn now.plan.choice frames) ≤ now.plan.paper.shown → StandsBelow now (row_above now.plan.choice protocol shape frames)
