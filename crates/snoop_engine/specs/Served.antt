-- When the rows of a text have been served by a run.
-- Source: this project's profile.
use Rattle.std.specs.Prelude.{◌≡◌, ℕ, ◌*◌, ◌≤◌, ◌==◌, Bool, List, ◌∷◌, ◌++◌, length, map, filter, filter_map, All, IsOk, is_some, Option, Some, None, Result, if◌then◌else◌}
use Rattle.snoop_trace.specs.{Extent.Extent, declared.step.{Op.Op, Row.Row, Step.{Step, TheVariants.{Ask, Order, Respond}}, Work.Work}}
use Rattle.snoop_trace.specs.declared.protocol.Protocol.{Protocol}
use Rattle.snoop_rules.specs.declared.names.Request.{Request}
use Rattle.snoop_history.specs.{History.{answers_of, Legal}, declared.items.Did.Did}
use Rattle.snoop_model.specs.{declared.replies.{Reply.Reply, Refused.Refused}, Pictures.Situation.{Situation, HasOpen, reset}, Turns.Quiet.IsQuiet}
use Rattle.snoop_model.specs.{Moves.{Move.as_access, Refuses.WaitsOnNone}, Runs.{Once.did_access, Run.FirstRunFrom}}
use Rattle.snoop_engine.specs.Todo.{works_of}

-- the work that a step asks of the core, if it is that core's Ask
abbrev pub ask_of : ℕ → Step → Option Work
ask_of core (Ask c block word asking) = if c == core then Some (record { block = block; word = word; op = asking }) else None
ask_of core (Order c) = None
ask_of core (Respond block) = None

-- the work of a core's Asks, in order
abbrev pub asks_of : List Step → ℕ → List Work
asks_of steps core = filter_map (ask_of core) steps

-- no request of the core waits, and none is open
pub record IsQuietFor (s : Situation) (core : ℕ) : Type 0 where
  pub ordered : WaitsOnNone s core
  pub closed : (block : ℕ) (request : Request) → ¬ HasOpen s core block request

-- these steps lead from here to where no request of the core waits or is open
pub record LeadsToQuietFor (here : Situation) (steps : List Step) (core : ℕ) : Type 0 where
  pub outcomes : List (Result Reply Refused)
  pub reached : Situation
  pub run : FirstRunFrom here steps outcomes reached
  pub quiet : IsQuietFor reached core

-- from here each core asks for one thing at a time: before an Ask no request of its core waits or is open
abbrev pub AsksOneByOne : Situation → List Step → Type 0
AsksOneByOne here steps =
    (before after : List Step) (core block word : ℕ) (asking : Op) → steps ≡ before ++ Ask core block word asking ∷ after → LeadsToQuietFor here before core

-- the work is a load or a store
abbrev pub is_operation : Work → Bool
is_operation work = is_some (as_access work.word work.op)

-- an operation of the history, as it was asked for
abbrev pub work_done : Did → Work
work_done did = record { block = did.block; word = did.word; op = (did_access did).op }

-- the steps, each taken, ask each core's rows in order and one at a time, end with nothing waiting or open, and are at most three a row; and the history is legal, and has of each core the loads and stores of its rows, in order
pub record Serves (protocol : Protocol) (shape : Extent) (rows : List Row) (steps : List Step) (outcomes : List (Result Reply Refused)) (final : Situation) : Type 0 where
  pub taken : All IsOk outcomes
  pub asked : (core : ℕ) → asks_of steps core ≡ works_of shape rows core
  pub apart : AsksOneByOne (reset protocol shape) steps
  pub legal : Legal final.log
  pub performed : (core : ℕ) → map work_done (answers_of final.log core) ≡ filter is_operation (works_of shape rows core)
  pub quiet : IsQuiet final
  pub few : length steps ≤ 3 * length rows
