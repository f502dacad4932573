-- What a simulation of rows in the order of their text leaves, by what it answers.
-- Source: this project's profile.
use Rattle.std.specs.{Prelude.{◌≡◌, ℕ, List, ◌++◌, map, All, IsOk, Option, Result, Ok, Err, ◌⊎◌}, Io.KnownBytes.Appends}
use Rattle.snoop_trace.specs.{Extent.Extent, Output.AppendsFront, declared.{step.{Row.Row, Step.Step}, protocol.Protocol.Protocol}}
use Rattle.snoop_history.specs.Report.{report_of}
use Rattle.snoop_model.specs.{declared.replies.{Reply.Reply, Refused.Refused}, Pictures.Situation.Situation, Runs.Run.TheRun}
use Rattle.snoop_engine.specs.{Line.line_texts, Serial.{AsksAtRest, ServesSerially, all_asks, ask_for}, SimulatedRun.ReadsRows}
use Rattle.snoop_engine.specs.declared.fault.SimFault.{SimFault, TheVariants.{Text, NoMemory, Write}}

-- the writer got the lines of a run that serves the rows one after another, and then the report of its history
pub record ReportsSerial (protocol : Protocol) (shape : Extent) (rows : List Row) (old new : Option (List ℕ)) : Type 0 where
  pub steps : List Step
  pub outcomes : List (Result Reply Refused)
  pub final : Situation
  pub run : TheRun protocol shape steps outcomes final
  pub serves : ServesSerially protocol shape rows steps outcomes final
  pub output : Appends old new (line_texts shape steps outcomes ++ report_of shape.words final.log)

-- the writer got a beginning of the lines of a run whose steps are all taken and ask the first rows, each at rest, or of these lines and the report where they serve the rows
pub record BeginsSerial (protocol : Protocol) (shape : Extent) (rows : List Row) (old new : Option (List ℕ)) : Type 0 where
  pub steps : List Step
  pub outcomes : List (Result Reply Refused)
  pub reached : Situation
  pub run : TheRun protocol shape steps outcomes reached
  pub taken : All IsOk outcomes
  pub first : List Row
  pub left : List Row
  pub whole : rows ≡ first ++ left
  pub asked : all_asks steps ≡ map (ask_for shape) first
  pub apart : AsksAtRest protocol shape steps
  pub output :
      AppendsFront old new (line_texts shape steps outcomes)
      ⊎ (ServesSerially protocol shape rows steps outcomes reached × AppendsFront old new (line_texts shape steps outcomes ++ report_of shape.words reached.log))

-- the whole text was read, and its rows served one after another and all of it written, or a beginning of it; or the text was refused, or memory before the first step
abbrev pub SimulatesSerial : Protocol → Extent → Option (List ℕ) → Result (Unit {0}) SimFault → Option (List ℕ) → Option (List ℕ) → Type 0
SimulatesSerial protocol shape input (Ok u) old new = (rows : List Row) × (ReadsRows shape input (Ok rows) × ReportsSerial protocol shape rows old new)
SimulatesSerial protocol shape input (Err (Text fault)) old new = ReadsRows shape input (Err fault)
SimulatesSerial protocol shape input (Err NoMemory) old new = (rows : List Row) × (ReadsRows shape input (Ok rows) × BeginsSerial protocol shape rows old new)
SimulatesSerial protocol shape input (Err Write) old new = (rows : List Row) × (ReadsRows shape input (Ok rows) × BeginsSerial protocol shape rows old new)
