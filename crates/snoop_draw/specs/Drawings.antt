-- The drawing of a run.
-- Source: this project's profile.
use Rattle.std.specs.{Prelude.{ℕ, ◌+◌, ◌==◌, List, [], ◌++◌, codes, Option, Result, if◌then◌else◌}, Fmt.decimal, List.flat_map}
use Rattle.snoop_trace.specs.{Extent.Extent, declared.{protocol.Protocol.Protocol, step.Step.Step}}
use Rattle.snoop_model.specs.{Pictures.Situation.{Situation, reset}, declared.replies.{Reply.Reply, Refused.Refused}}
use Rattle.snoop_engine.specs.{Chosen.{Chosen, is_shown}, Frames.{Frame, steps_of}, Line.line_text, Numbered.numbered_from, Taken.lines_of_step}
use Rattle.snoop_engine.specs.{Views.block_of_step, declared.taken.Taken.Taken}
use Rattle.snoop_draw.specs.{declared.{cells.Style.Style, event.Event.TheVariants.Before, marks.Charset.Charset}, Cells.right_text, Events.event_in}
use Rattle.snoop_draw.specs.{Headings.{heading_text, legend_text}, Panels.{Panel, panels_for}, Rows.panel_text, Widths.widths_for}

-- how a drawing looks, its panels, and which steps are drawn
pub record Sheet : Type 0 where
  pub style : Style
  pub panels : List Panel
  pub choice : Chosen

-- the sheet for a drawing of these steps
abbrev pub sheet_for : Extent → Charset → Chosen → List Step → Sheet
sheet_for shape charset choice steps =
    record { style = record { charset = charset; widths = widths_for shape steps }; panels = panels_for shape steps choice.block; choice = choice }

-- the last words of the first row
abbrev pub first_words : ℕ → List ℕ
first_words number = if number == 0 then codes " at reset\n" else codes " before\n"

-- the first row: the machine as it stands after so many steps
abbrev pub standing_text : Sheet → ℕ → Situation → List ℕ
standing_text sheet number s =
    right_text sheet.style.widths.number (decimal number) ++ flat_map (panel_text sheet.style s Before []) sheet.panels ++ first_words number

-- what the row of a step, which is of this block if of any, shows of a panel
abbrev pub panel_seen : Style → Situation → Option ℕ → Step → Result Reply Refused → List Taken → Panel → List ℕ
panel_seen style s of step outcome lines panel = panel_text style s (event_in panel.block of step outcome lines) lines panel

-- the row of a step: its number, the panels, and its line
abbrev pub row_seen : Sheet → Extent → ℕ → Situation → Option ℕ → Step → Result Reply Refused → List Taken → List ℕ
row_seen sheet shape number s of step outcome lines =
    right_text sheet.style.widths.number (decimal number) ++ flat_map (panel_seen sheet.style s of step outcome lines) sheet.panels ++ codes " " ++ line_text shape step outcome

-- what is drawn at a step: its row, or after the last step that is not drawn the first row
abbrev pub rows_seen : Sheet → Extent → ℕ → Situation → Option ℕ → Step → Result Reply Refused → List Taken → List ℕ
rows_seen sheet shape number s of step outcome lines =
    if number + 1 == sheet.choice.from then standing_text sheet number s
    else (if is_shown sheet.choice of number then row_seen sheet shape number s of step outcome lines else [])

-- the same of a frame: by the machine after it, and the block and the lines of its step
abbrev pub rows_at : Sheet → Extent → ℕ → Frame → List ℕ
rows_at sheet shape number frame =
    rows_seen sheet shape number frame.after (block_of_step frame.before frame.step) frame.step frame.outcome (lines_of_step frame.before frame.step frame.outcome)

-- what is drawn at steps, the first of which has this number
abbrev pub rows_from : Sheet → Extent → ℕ → List Frame → List ℕ
rows_from sheet shape number frames = flat_map (λ n. rows_at sheet shape n.number n.frame) (numbered_from number frames)

-- what is drawn before any step: the heading, and the first row if the first step is drawn
abbrev pub beginning_text : Sheet → Protocol → Extent → List ℕ
beginning_text sheet protocol shape =
    heading_text sheet.style protocol shape sheet.panels ++ (if 1 == sheet.choice.from then standing_text sheet 0 (reset protocol shape) else [])

-- the whole drawing of the frames of a run
abbrev pub drawing_text : Protocol → Extent → Charset → Chosen → List Frame → List ℕ
drawing_text protocol shape charset choice frames =
    let sheet = sheet_for shape charset choice (steps_of frames) in
    beginning_text sheet protocol shape ++ rows_from sheet shape 1 frames ++ legend_text charset
