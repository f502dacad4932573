-- A machine whose steps are recorded, and whose items are published as they come.
-- Source: this project's profile.
use Rattle.std.specs.Prelude.{◌≡◌, List, [], ◌∷◌, ◌++◌, All, Option, option_to_list}
use Rattle.snoop_trace.specs.{Output.IsReadableStep, declared.step.Step.Step}
use Rattle.snoop_history.specs.declared.items.Item.{Item}
use Rattle.snoop_model.specs.{declared.replies.Reply.Reply, Pictures.Situation.Situation, Moves.Move.FirstMove, Runs.Run.AllTaken}
use Rattle.snoop_bench.specs.declared.recorder.Recorder.TheInside.{Inside}

-- the machine's situation, the steps that it has taken, and the list that is published
pub record Recording : Type 0 where
  pub situation : Situation
  pub steps : List Step
  pub published : List Item

-- a recorder as callers see it
abbrev pub recording : Inside → Recording
recording r = record { situation = r.machine.situation; steps = r.steps.items; published = r.writer.list }

-- the situation is that of the run of the recorded steps from reset, all taken, and its log is published
pub record IsRecorded (r : Recording) : Type 0 where
  pub run : AllTaken r.situation.protocol r.situation.shape r.steps r.situation
  -- each step is one that is read again from its text
  pub readable : All (IsReadableStep r.situation.shape) r.steps
  pub published : r.published ≡ r.situation.log

-- what every recorder keeps: nothing is left to publish, and the versions are of the machine's shape
pub record Records (r : Inside) : Type 0 where
  pub recorded : IsRecorded (recording r)
  pub ready : r.writer.ready ≡ []
  pub shape : r.writer.shape ≡ r.machine.situation.shape

-- one step is taken: it is a move, stands last among the steps, and the item that it adds to the log, if any, is published
pub record TakesAndPublishes (step : Step) (answer : Reply) (p q : Recording) : Type 0 where
  pub item : Option Item
  pub move : FirstMove p.situation step answer q.situation
  pub logged : q.situation.log ≡ p.situation.log ++ option_to_list item
  pub steps : q.steps ≡ p.steps ++ step ∷ []
  pub published : q.published ≡ p.published ++ option_to_list item
