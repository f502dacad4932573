-- The steps that come of a text: its own, or those of a run that serves its rows.
-- Source: this project's profile.
use Rattle.std.specs.Prelude.{ℕ, List, Option, Result, Ok, Err}
use Rattle.snoop_trace.specs.{Extent.Extent, declared.{fault.TextFault.TextFault, protocol.Protocol.Protocol, step.{Row.Row, Step.Step}}}
use Rattle.snoop_model.specs.{declared.replies.{Reply.Reply, Refused.Refused}, Pictures.Situation.Situation, Runs.Run.TheRun}
use Rattle.snoop_engine.specs.{Serial.ServesSerially, Served.Serves, Simulated.Reads, SimulatedRun.ReadsRows, declared.input.Input.Input}
use Rattle.snoop_engine.specs.declared.input.Input.TheVariants.{Steps, Rows, SerialRows}

-- the run of the steps serves the rows
pub record StepsServe (protocol : Protocol) (shape : Extent) (rows : List Row) (steps : List Step) : Type 0 where
  pub outcomes : List (Result Reply Refused)
  pub final : Situation
  pub run : TheRun protocol shape steps outcomes final
  pub serves : Serves protocol shape rows steps outcomes final

-- the run of the steps serves the rows one after another, in the order of the text
pub record StepsServeSerially (protocol : Protocol) (shape : Extent) (rows : List Row) (steps : List Step) : Type 0 where
  pub outcomes : List (Result Reply Refused)
  pub final : Situation
  pub run : TheRun protocol shape steps outcomes final
  pub serves : ServesSerially protocol shape rows steps outcomes final

-- a text, where its bytes are known, was read whole, and these steps come of it
abbrev pub GivesSteps : Protocol → Extent → Input → Option (List ℕ) → List Step → Type 0
GivesSteps protocol shape Steps text steps = Reads protocol shape text (Ok steps)
GivesSteps protocol shape Rows text steps = (rows : List Row) × (ReadsRows shape text (Ok rows) × StepsServe protocol shape rows steps)
GivesSteps protocol shape SerialRows text steps = (rows : List Row) × (ReadsRows shape text (Ok rows) × StepsServeSerially protocol shape rows steps)

-- this fault refuses a text: where its bytes are known, it is the text's first fault, or a failed read, or out of memory
abbrev pub IsRefusedText : Protocol → Extent → Input → Option (List ℕ) → TextFault → Type 0
IsRefusedText protocol shape Steps text fault = Reads protocol shape text (Err fault)
IsRefusedText protocol shape Rows text fault = ReadsRows shape text (Err fault)
IsRefusedText protocol shape SerialRows text fault = ReadsRows shape text (Err fault)
