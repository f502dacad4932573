-- What the command leaves that draws a run as SVG, by what it answers.
-- Source: this project's profile.
use Rattle.std.specs.Prelude.{◌≡◌, ℕ, List, Option, Some, None, Result, Ok, Err, ◌⊎◌}
use Rattle.snoop_trace.specs.{Extent.Extent, declared.{protocol.Protocol.Protocol, step.Step.Step}}
use Rattle.snoop_engine.specs.{Inputs.{GivesSteps, IsRefusedText}, SimulatedView.{BeginsToShow, ShowsRun}, declared.input.Input.Input, Chosen.Chosen}
use Rattle.snoop_engine.specs.declared.fault.SimFault.TheVariants.{Text, NoMemory, Write}
use Rattle.snoop_draw.specs.{Panels.panels_for, declared.fault.DrawFault.{DrawFault, TheVariants.{Simulation, TooLarge}}}
use Rattle.snoop_svg.specs.{declared.paper.Paper.Paper, Drawings.{drawing_text, plan_for}, Sheets.Plan, Size.{HasRows, IsSmall}}

-- the drawing of the steps is small enough
abbrev pub IsDrawable : Protocol → Extent → Chosen → List Step → Type 0
IsDrawable protocol shape choice steps = (rows : ℕ) × (HasRows protocol shape choice steps rows × IsSmall rows (panels_for shape steps choice.block))

-- it is not
abbrev pub IsUndrawable : Protocol → Extent → Chosen → List Step → Type 0
IsUndrawable protocol shape choice steps = (rows : ℕ) × (HasRows protocol shape choice steps rows × ¬ IsSmall rows (panels_for shape steps choice.block))

-- this is the plan of the drawing of the steps, which is small enough
pub record IsPlanOf (protocol : Protocol) (shape : Extent) (choice : Chosen) (paper : Paper) (steps : List Step) (plan : Plan) : Type 0 where
  pub rows : ℕ
  pub has : HasRows protocol shape choice steps rows
  pub small : IsSmall rows (panels_for shape steps choice.block)
  pub is : plan ≡ plan_for shape choice paper steps rows

-- there is a plan, unless the drawing is too large
abbrev pub IsPlanned : Protocol → Extent → Chosen → Paper → List Step → Option Plan → Type 0
IsPlanned protocol shape choice paper steps None = IsUndrawable protocol shape choice steps
IsPlanned protocol shape choice paper steps (Some plan) = IsPlanOf protocol shape choice paper steps plan

-- the drawing was small enough, and the writer got a beginning of it
abbrev pub BeginsToDraw : Protocol → Extent → Chosen → Paper → List Step → Option (List ℕ) → Option (List ℕ) → Type 0
BeginsToDraw protocol shape choice paper steps old new = IsDrawable protocol shape choice steps × BeginsToShow protocol shape (drawing_text protocol shape choice paper) steps old new

-- the steps were drawn, or a beginning of that; or their drawing would be too large
abbrev pub DrawsSteps : Protocol → Extent → Chosen → Paper → List Step → Result (Unit {0}) DrawFault → Option (List ℕ) → Option (List ℕ) → Type 0
DrawsSteps protocol shape choice paper steps (Ok u) old new = IsDrawable protocol shape choice steps × ShowsRun protocol shape (drawing_text protocol shape choice paper) steps old new
DrawsSteps protocol shape choice paper steps (Err TooLarge) old new = IsUndrawable protocol shape choice steps × (new ≡ old)
DrawsSteps protocol shape choice paper steps (Err (Simulation NoMemory)) old new = (new ≡ old) ⊎ BeginsToDraw protocol shape choice paper steps old new
DrawsSteps protocol shape choice paper steps (Err (Simulation Write)) old new = BeginsToDraw protocol shape choice paper steps old new
DrawsSteps protocol shape choice paper steps (Err (Simulation (Text fault))) old new = ⊥

-- the whole text was read and what came of it drawn, or a beginning of that; or the text was refused
abbrev pub Draws : Protocol → Extent → Input → Chosen → Paper → Option (List ℕ) → Result (Unit {0}) DrawFault → Option (List ℕ) → Option (List ℕ) → Type 0
Draws protocol shape input choice paper bytes (Err (Simulation (Text fault))) old new = IsRefusedText protocol shape input bytes fault
Draws protocol shape input choice paper bytes result old new = (steps : List Step) × (GivesSteps protocol shape input bytes steps × DrawsSteps protocol shape choice paper steps result old new)
