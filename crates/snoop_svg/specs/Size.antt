-- How large a drawing is.
-- Source: this project's profile.
use Rattle.std.specs.Prelude.{◌≡◌, ℕ, ◌+◌, ◌*◌, ◌≤◌, List, [], codes, Option, length, if◌then◌else◌}
use Rattle.snoop_trace.specs.{Extent.Extent, declared.{protocol.Protocol.Protocol, step.Step.Step}}
use Rattle.snoop_model.specs.Pictures.Situation.{Situation}
use Rattle.snoop_engine.specs.{Frames.{AreFrames, Frame}, Chosen.{Chosen, is_shown}}
use Rattle.snoop_draw.specs.{Panels.Panel, Size.columns_of}
use Rattle.snoop_svg.specs.Drawings.{drawn, most_cells}

-- a drawing of so many rows and these panels has `most_cells` cells at most
abbrev pub IsSmall : ℕ → List Panel → Type 0
IsSmall rows panels = (rows + 1) * (columns_of panels + 1) ≤ most_cells

-- in the run of the steps so many are drawn
pub record HasRows (protocol : Protocol) (shape : Extent) (choice : Chosen) (steps : List Step) (rows : ℕ) : Type 0 where
  pub frames : List Frame
  pub final : Situation
  pub run : AreFrames protocol shape steps frames final
  pub count : rows ≡ length (drawn choice frames)

-- a byte for a step that is drawn
abbrev pub mark_text : Chosen → ℕ → Option ℕ → List ℕ
mark_text choice number of = if is_shown choice of number then codes "\n" else []
