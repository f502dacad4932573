-- When a run serves the rows of a text one after another.
-- Source: this project's profile.
use Rattle.std.specs.Prelude.{◌≡◌, Bool, true, false, List, ◌∷◌, ◌++◌, map, filter, Result, ◌/◌}
use Rattle.snoop_trace.specs.{Extent.Extent, Grammar.word_asked, declared.step.{Row.Row, Step.{Step, TheVariants.{Ask, Order, Respond}}}}
use Rattle.snoop_trace.specs.declared.protocol.Protocol.{Protocol}
use Rattle.snoop_model.specs.{declared.replies.{Reply.Reply, Refused.Refused}, Pictures.Situation.Situation, Turns.Quiet.IsQuiet, Runs.Run.TheRun}
use Rattle.snoop_engine.specs.Served.{Serves}

-- the Ask of a row
abbrev pub ask_for : Extent → Row → Step
ask_for shape row = Ask row.core (row.address / shape.block_bytes) (word_asked shape row.address row.op) row.op

-- whether a step is an Ask
abbrev pub is_ask : Step → Bool
is_ask (Ask core block word asking) = true
is_ask (Order core) = false
is_ask (Respond block) = false

-- the Asks of all cores together, in order
abbrev pub all_asks : List Step → List Step
all_asks steps = filter is_ask steps

-- after these steps from reset nothing waits and nothing is open
pub record EndsQuiet (protocol : Protocol) (shape : Extent) (steps : List Step) : Type 0 where
  pub outcomes : List (Result Reply Refused)
  pub reached : Situation
  pub run : TheRun protocol shape steps outcomes reached
  pub quiet : IsQuiet reached

-- nothing waits and nothing is open before any Ask of the steps
abbrev pub AsksAtRest : Protocol → Extent → List Step → Type 0
AsksAtRest protocol shape steps =
    (before after : List Step) (step : Step) → steps ≡ before ++ step ∷ after → is_ask step ≡ true → EndsQuiet protocol shape before

-- the steps serve the rows, whose Asks come in the order of the text, each when nothing waits and nothing is open
pub record ServesSerially (protocol : Protocol) (shape : Extent) (rows : List Row) (steps : List Step) (outcomes : List (Result Reply Refused)) (final : Situation) : Type 0 where
  pub serves : Serves protocol shape rows steps outcomes final
  pub asked : all_asks steps ≡ map (ask_for shape) rows
  pub apart : AsksAtRest protocol shape steps
