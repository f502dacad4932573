-- The line of a step: its text and the machine's reply or refusal.
-- Source: this project's profile.
use Rattle.std.specs.Prelude.{ℕ, List, [], ◌∷◌, ◌++◌, codes, Result, Ok, Err}
use Rattle.snoop_trace.specs.{Extent.Extent, Output.step_text, declared.step.Step.Step}
use Rattle.snoop_model.specs.{declared.replies.{Reply.Reply, Refused.Refused}, Texts.{reply_text, refusal_text}}

-- the text of what the machine answered to a step: the reply, or `refused` and why
abbrev pub outcome_text : Result Reply Refused → List ℕ
outcome_text (Ok reply) = reply_text reply
outcome_text (Err cause) = codes "refused " ++ refusal_text cause

-- the line of one step: its record, a colon, and what the machine answered
abbrev pub line_text : Extent → Step → Result Reply Refused → List ℕ
line_text shape step outcome = step_text shape step ++ codes ": " ++ outcome_text outcome ++ codes "\n"

-- the lines of steps and what the machine answered to each
abbrev pub line_texts : Extent → List Step → List (Result Reply Refused) → List ℕ
line_texts shape (step ∷ steps) (outcome ∷ outcomes) = line_text shape step outcome ++ line_texts shape steps outcomes
line_texts shape _ _ = []
