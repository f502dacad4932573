-- What the command `draw` leaves, by what it answers.
-- Source: this project's profile.
use Rattle.std.specs.Prelude.{◌≡◌, ℕ, List, Option, Result, Ok, Err, length, ◌⊎◌}
use Rattle.snoop_trace.specs.{Extent.Extent, declared.{protocol.Protocol.Protocol, step.Step.Step}}
use Rattle.snoop_model.specs.Pictures.Situation.{Situation}
use Rattle.snoop_engine.specs.{Frames.Frame, Inputs.{GivesSteps, IsRefusedText}, SimulatedView.{BeginsToShow, ShowsRun}, declared.input.Input.Input}
use Rattle.snoop_engine.specs.{declared.fault.SimFault.TheVariants.{Text, NoMemory, Write}, Chosen.Chosen}
use Rattle.snoop_draw.specs.{declared.{fault.DrawFault.{DrawFault, TheVariants.{Simulation, TooLarge}}, marks.Charset.Charset}, Drawings.drawing_text}
use Rattle.snoop_draw.specs.{Panels.panels_for, Size.IsSmall}

-- a drawing of these steps is small enough
abbrev pub IsDrawable : Extent → Chosen → List Step → Type 0
IsDrawable shape choice steps = IsSmall choice (length steps) (panels_for shape steps choice.block)

-- the drawing, whatever the run leads to
abbrev pub drawing : Protocol → Extent → Charset → Chosen → List Frame → Situation → List ℕ
drawing protocol shape charset choice frames final = drawing_text protocol shape charset choice frames

-- the drawing was small enough, and the writer got a beginning of it
abbrev pub BeginsToDraw : Protocol → Extent → Charset → Chosen → List Step → Option (List ℕ) → Option (List ℕ) → Type 0
BeginsToDraw protocol shape charset choice steps old new = IsDrawable shape choice steps × BeginsToShow protocol shape (drawing protocol shape charset choice) steps old new

-- the steps were drawn, or a beginning of that; or they were too many
abbrev pub DrawsSteps : Protocol → Extent → Charset → Chosen → List Step → Result (Unit {0}) DrawFault → Option (List ℕ) → Option (List ℕ) → Type 0
DrawsSteps protocol shape charset choice steps (Ok u) old new = IsDrawable shape choice steps × ShowsRun protocol shape (drawing protocol shape charset choice) steps old new
DrawsSteps protocol shape charset choice steps (Err TooLarge) old new = (¬ IsDrawable shape choice steps) × (new ≡ old)
DrawsSteps protocol shape charset choice steps (Err (Simulation NoMemory)) old new = (new ≡ old) ⊎ BeginsToDraw protocol shape charset choice steps old new
DrawsSteps protocol shape charset choice steps (Err (Simulation Write)) old new = BeginsToDraw protocol shape charset choice steps old new
DrawsSteps protocol shape charset choice steps (Err (Simulation (Text fault))) old new = ⊥

-- the whole text was read and what came of it drawn, or a beginning of that; or the text was refused
abbrev pub Draws : Protocol → Extent → Input → Charset → Chosen → Option (List ℕ) → Result (Unit {0}) DrawFault → Option (List ℕ) → Option (List ℕ) → Type 0
Draws protocol shape input charset choice bytes (Err (Simulation (Text fault))) old new = IsRefusedText protocol shape input bytes fault
Draws protocol shape input charset choice bytes result old new = (steps : List Step) × (GivesSteps protocol shape input bytes steps × DrawsSteps protocol shape charset choice steps result old new)
