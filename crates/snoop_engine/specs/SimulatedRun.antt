-- What a simulation of rows leaves, by what it answers.
-- Source: this project's profile.
use Rattle.std.specs.{Prelude.{◌≡◌, ℕ, List, ◌++◌, All, IsOk, Option, Result, Ok, Err, IfSome, ◌⊎◌}, Io.KnownBytes.Appends}
use Rattle.snoop_trace.specs.{Extent.Extent, Output.AppendsFront, Text.{Gives, rows_of}, declared.{fault.TextFault.TextFault, step.{Row.Row, Step.Step}}}
use Rattle.snoop_trace.specs.declared.{protocol.Protocol.Protocol, step.Work.Work}
use Rattle.snoop_history.specs.Report.{report_of}
use Rattle.snoop_model.specs.{declared.replies.{Reply.Reply, Refused.Refused}, Pictures.Situation.{Situation, reset}, Runs.Run.TheRun}
use Rattle.snoop_engine.specs.{Line.line_texts, Served.{AsksOneByOne, Serves, asks_of}, Todo.works_of, declared.fault.SimFault.SimFault}
use Rattle.snoop_engine.specs.declared.fault.SimFault.TheVariants.{Text, NoMemory, Write}

-- a text, where its bytes are known, was read so: its rows, or its first fault, or a failure to read it
abbrev pub ReadsRows : Extent → Option (List ℕ) → Result (List Row) TextFault → Type 0
ReadsRows shape input answer = IfSome input (λ bytes. Gives (λ (rows : List Row). rows) answer (rows_of shape bytes))

-- the writer got the lines of a run that serves the rows, and then the report of its history
pub record ReportsRun (protocol : Protocol) (shape : Extent) (rows : List Row) (old new : Option (List ℕ)) : Type 0 where
  pub steps : List Step
  pub outcomes : List (Result Reply Refused)
  pub final : Situation
  pub run : TheRun protocol shape steps outcomes final
  pub serves : Serves protocol shape rows steps outcomes final
  pub output : Appends old new (line_texts shape steps outcomes ++ report_of shape.words final.log)

-- a core's first rows: the others are left
abbrev pub IsBeginningOf : List Work → List Work → Type 0
IsBeginningOf asks works = (left : List Work) × (works ≡ asks ++ left)

-- the writer got a beginning of the lines of a run whose steps are all taken and ask each core's first rows one at a time, or of these lines and the report where they serve the rows
pub record BeginsRun (protocol : Protocol) (shape : Extent) (rows : List Row) (old new : Option (List ℕ)) : Type 0 where
  pub steps : List Step
  pub outcomes : List (Result Reply Refused)
  pub reached : Situation
  pub run : TheRun protocol shape steps outcomes reached
  pub taken : All IsOk outcomes
  pub asked : (core : ℕ) → IsBeginningOf (asks_of steps core) (works_of shape rows core)
  pub apart : AsksOneByOne (reset protocol shape) steps
  pub output :
      AppendsFront old new (line_texts shape steps outcomes)
      ⊎ (Serves protocol shape rows steps outcomes reached × AppendsFront old new (line_texts shape steps outcomes ++ report_of shape.words reached.log))

-- the whole text was read, and its rows served and all of it written, or a beginning of it; or the text was refused, or memory before the first step
abbrev pub SimulatesRun : Protocol → Extent → Option (List ℕ) → Result (Unit {0}) SimFault → Option (List ℕ) → Option (List ℕ) → Type 0
SimulatesRun protocol shape input (Ok u) old new = (rows : List Row) × (ReadsRows shape input (Ok rows) × ReportsRun protocol shape rows old new)
SimulatesRun protocol shape input (Err (Text fault)) old new = ReadsRows shape input (Err fault)
SimulatesRun protocol shape input (Err NoMemory) old new = (rows : List Row) × (ReadsRows shape input (Ok rows) × BeginsRun protocol shape rows old new)
SimulatesRun protocol shape input (Err Write) old new = (rows : List Row) × (ReadsRows shape input (Ok rows) × BeginsRun protocol shape rows old new)
