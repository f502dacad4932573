-- Courses of steps, to their ends.
-- Source: this project's profile.
use Rattle.std.specs.Prelude.{◌≡◌, List, ◌∷◌, Result}
use Rattle.snoop_trace.specs.{Extent.Extent, declared.{step.Step.Step, protocol.Protocol.Protocol}}
use Rattle.snoop_model.specs.{declared.replies.{Reply.Reply, Refused.Refused}, Pictures.Situation.Situation, Runs.Run.{FirstRunFrom, TheRun}}

-- whether these steps, answered so, lead on to this situation
abbrev pub Leading : Type 1
Leading = List Step → List (Result Reply Refused) → Situation → Type 0

-- what leads on after the step leads on before it, with the step first
abbrev pub LeadsOn : Leading → Step → Result Reply Refused → Leading → Type 0
LeadsOn before step outcome after =
    (steps : List Step) (outcomes : List (Result Reply Refused)) (final : Situation) → after steps outcomes final → before (step ∷ steps) (outcome ∷ outcomes) final

-- some steps lead to the end
pub record CanEnd (leads : Leading) : Type 0 where
  pub steps : List Step
  pub outcomes : List (Result Reply Refused)
  pub final : Situation
  pub way : leads steps outcomes final

-- if some run from reset has led here, some steps lead to the end
abbrev pub CanEndFrom : Situation → Leading → Type 0
CanEndFrom here leads = (protocol : Protocol) (shape : Extent) (steps : List Step) (outcomes : List (Result Reply Refused)) → TheRun protocol shape steps outcomes here → CanEnd leads

-- some steps lead to the end, and this holds of them, their outcomes and where they lead
pub record LeadsToEndWith (leads all : Leading) : Type 0 where
  pub steps : List Step
  pub outcomes : List (Result Reply Refused)
  pub final : Situation
  pub way : leads steps outcomes final
  pub holds : all steps outcomes final

-- the steps are those that are left, and lead on from here
abbrev pub LeadsListed : List Step → Situation → Leading
LeadsListed left here steps outcomes final = (steps ≡ left) × FirstRunFrom here steps outcomes final

-- the step was left first, and no other step is gone
abbrev pub FindsListed : List Step → Situation → Step → List Step → Situation → Type 0
FindsListed left here step rest now = (left ≡ step ∷ rest) × (now ≡ here)
