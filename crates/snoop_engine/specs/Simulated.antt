-- What a simulation leaves, by what it answers.
-- Source: this project's profile.
use Rattle.std.specs.{Prelude.{ℕ, List, ◌++◌, Option, Result, Ok, Err, IfSome}, Io.KnownBytes.Appends}
use Rattle.snoop_trace.specs.{Extent.Extent, Output.AppendsFront, Text.{Gives, steps_of}, declared.{fault.TextFault.TextFault, step.Step.Step}}
use Rattle.snoop_trace.specs.declared.protocol.Protocol.{Protocol}
use Rattle.snoop_history.specs.Report.{report_of}
use Rattle.snoop_model.specs.{declared.replies.{Reply.Reply, Refused.Refused}, Pictures.Situation.Situation, Runs.Run.TheRun}
use Rattle.snoop_engine.specs.{Line.line_texts, declared.fault.SimFault.{SimFault, TheVariants.{Text, NoMemory, Write}}}

-- a text, where its bytes are known, was read so: its steps, or its first fault, or a failure to read it
abbrev pub Reads : Protocol → Extent → Option (List ℕ) → Result (List Step) TextFault → Type 0
Reads protocol shape input answer = IfSome input (λ bytes. Gives (λ (steps : List Step). steps) answer (steps_of protocol shape bytes))

-- the writer got the lines of the run of the steps, and then the report of its history
pub record Reports (protocol : Protocol) (shape : Extent) (steps : List Step) (old new : Option (List ℕ)) : Type 0 where
  pub outcomes : List (Result Reply Refused)
  pub final : Situation
  pub run : TheRun protocol shape steps outcomes final
  pub output : Appends old new (line_texts shape steps outcomes ++ report_of shape.words final.log)

-- the writer got a beginning, perhaps empty or whole, of the lines of the run of the steps and the report of its history
pub record Begins (protocol : Protocol) (shape : Extent) (steps : List Step) (old new : Option (List ℕ)) : Type 0 where
  pub outcomes : List (Result Reply Refused)
  pub final : Situation
  pub run : TheRun protocol shape steps outcomes final
  pub output : AppendsFront old new (line_texts shape steps outcomes ++ report_of shape.words final.log)

-- the whole text was read, and its whole output written, or a beginning of it; or the text was refused
abbrev pub Simulates : Protocol → Extent → Option (List ℕ) → Result (Unit {0}) SimFault → Option (List ℕ) → Option (List ℕ) → Type 0
Simulates protocol shape input (Ok u) old new = (steps : List Step) × (Reads protocol shape input (Ok steps) × Reports protocol shape steps old new)
Simulates protocol shape input (Err (Text fault)) old new = Reads protocol shape input (Err fault)
Simulates protocol shape input (Err NoMemory) old new = (steps : List Step) × (Reads protocol shape input (Ok steps) × Begins protocol shape steps old new)
Simulates protocol shape input (Err Write) old new = (steps : List Step) × (Reads protocol shape input (Ok steps) × Begins protocol shape steps old new)
