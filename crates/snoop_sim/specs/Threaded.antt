-- What a simulation of rows in threads leaves, by what it answers.
-- Source: this project's profile.
use Rattle.std.specs.{Prelude.{◌≡◌, ℕ, ◌<◌, List, All, Option, Result, Ok, Err}, Io.KnownBytes.Appends}
use Rattle.snoop_trace.specs.{Extent.Extent, Output.{AppendsFront, IsReadableStep, text_of}, Text.steps_of, declared.step.{Row.Row, Step.Step}}
use Rattle.snoop_trace.specs.declared.protocol.Protocol.{Protocol}
use Rattle.snoop_history.specs.History.{answers_of}
use Rattle.snoop_model.specs.{Pictures.Situation.Situation, Turns.Quiet.IsQuiet, Runs.Run.AllTaken}
use Rattle.snoop_cores.specs.Rows.{AnswersRows, rows_of_core}
use Rattle.snoop_engine.specs.SimulatedRun.{ReadsRows}
use Rattle.snoop_sim.specs.{ThreadsFault.IsOfThreads, declared.fault.ThreadsFault.{ThreadsFault, TheVariants.{Text, Write}}}

-- the steps, each of them taken, lead from reset to rest, and each core's operations are the loads and stores of its rows, in order
pub record Threaded (protocol : Protocol) (shape : Extent) (rows : List Row) (steps : List Step) : Type 0 where
  pub final : Situation
  pub taken : AllTaken protocol shape steps final
  -- each step lies within the shape, so that its text can be read again
  pub readable : All (IsReadableStep shape) steps
  pub quiet : IsQuiet final
  pub answered : (core : ℕ) → core < shape.cores → AnswersRows shape (rows_of_core core rows) (answers_of final.log core)

-- the writer got the text of such steps, from which the same steps are read
pub record WritesThreaded (protocol : Protocol) (shape : Extent) (rows : List Row) (old new : Option (List ℕ)) : Type 0 where
  pub steps : List Step
  pub threaded : Threaded protocol shape rows steps
  pub again : steps_of protocol shape (text_of protocol shape steps) ≡ Ok steps
  pub output : Appends old new (text_of protocol shape steps)

-- the writer got a beginning of such a text
pub record BeginsThreaded (protocol : Protocol) (shape : Extent) (rows : List Row) (old new : Option (List ℕ)) : Type 0 where
  pub steps : List Step
  pub threaded : Threaded protocol shape rows steps
  pub again : steps_of protocol shape (text_of protocol shape steps) ≡ Ok steps
  pub output : AppendsFront old new (text_of protocol shape steps)

-- what was written for the rows that were read: all the steps, or a beginning of them; where the threads were refused, nothing is said of it here
abbrev pub Outputs : Protocol → Extent → List Row → Result (Unit {0}) ThreadsFault → Option (List ℕ) → Option (List ℕ) → Type 0
Outputs protocol shape rows (Ok u) old new = WritesThreaded protocol shape rows old new
Outputs protocol shape rows (Err (Write fault)) old new = BeginsThreaded protocol shape rows old new
Outputs protocol shape rows (Err fault) old new = IsOfThreads fault

-- the text was refused; or its rows were read, and this was written
abbrev pub SimulatesThreads : Protocol → Extent → Option (List ℕ) → Result (Unit {0}) ThreadsFault → Option (List ℕ) → Option (List ℕ) → Type 0
SimulatesThreads protocol shape input (Err (Text fault)) old new = ReadsRows shape input (Err fault)
SimulatesThreads protocol shape input answer old new = (rows : List Row) × (ReadsRows shape input (Ok rows) × Outputs protocol shape rows answer old new)
