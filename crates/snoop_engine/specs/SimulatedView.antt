-- What the simulation of a view leaves, by what it answers.
-- Source: this project's profile.
use Rattle.std.specs.{Prelude.{ℕ, All, List, Option, Result, Ok, Err}, Io.KnownBytes.Appends}
use Rattle.snoop_trace.specs.{Extent.Extent, Output.AppendsFront, declared.{step.Step.Step, protocol.Protocol.Protocol}}
use Rattle.snoop_model.specs.{Pictures.Situation.Situation, Runs.Run.TheRun}
use Rattle.snoop_engine.specs.{Frames.{AreFrames, Frame, outcomes_of}, Inputs.{GivesSteps, IsRefusedText}, TrueLines.ShowsRows, declared.input.Input.Input}
use Rattle.snoop_engine.specs.declared.fault.SimFault.{SimFault, TheVariants.{Text, NoMemory, Write}}

-- the writer got this text of the frames of the run of the steps, whose lines are the rows that the controllers take
pub record ShowsRun (protocol : Protocol) (shape : Extent) (text : List Frame → Situation → List ℕ) (steps : List Step) (old new : Option (List ℕ)) : Type 0 where
  pub frames : List Frame
  pub final : Situation
  pub run : AreFrames protocol shape steps frames final
  pub taken : TheRun protocol shape steps (outcomes_of frames) final
  pub rows : All ShowsRows frames
  pub output : Appends old new (text frames final)

-- the writer got a beginning, perhaps empty or whole, of this text of the frames of the run of the steps; the lines of a frame are the rows that the controllers take
pub record BeginsToShow (protocol : Protocol) (shape : Extent) (text : List Frame → Situation → List ℕ) (steps : List Step) (old new : Option (List ℕ)) : Type 0 where
  pub frames : List Frame
  pub final : Situation
  pub run : AreFrames protocol shape steps frames final
  pub taken : TheRun protocol shape steps (outcomes_of frames) final
  pub rows : All ShowsRows frames
  pub output : AppendsFront old new (text frames final)

-- the whole text was read, and all that came of it was shown, or a beginning of that; or the text was refused
abbrev pub SimulatesView : Protocol → Extent → Input → (List Frame → Situation → List ℕ) → Option (List ℕ) → Result (Unit {0}) SimFault → Option (List ℕ) → Option (List ℕ) → Type 0
SimulatesView protocol shape input text bytes (Ok u) old new = (steps : List Step) × (GivesSteps protocol shape input bytes steps × ShowsRun protocol shape text steps old new)
SimulatesView protocol shape input text bytes (Err (Text fault)) old new = IsRefusedText protocol shape input bytes fault
SimulatesView protocol shape input text bytes (Err NoMemory) old new = (steps : List Step) × (GivesSteps protocol shape input bytes steps × BeginsToShow protocol shape text steps old new)
SimulatesView protocol shape input text bytes (Err Write) old new = (steps : List Step) × (GivesSteps protocol shape input bytes steps × BeginsToShow protocol shape text steps old new)
