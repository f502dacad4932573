-- What is written of a run of steps.
-- Source: this project's profile.
use Rattle.std.specs.Prelude.{ℕ, List, ◌++◌, Result}
use Rattle.snoop_trace.specs.{Extent.Extent, declared.step.Step.Step}
use Rattle.snoop_history.specs.Report.{report_of}
use Rattle.snoop_model.specs.{declared.replies.{Reply.Reply, Refused.Refused}, Pictures.Situation.Situation}
use Rattle.snoop_engine.specs.Line.{line_texts}

-- the lines of the steps, and then the report of what they led to
abbrev pub run_text : Extent → List Step → List (Result Reply Refused) → Situation → List ℕ
run_text shape steps outcomes final = line_texts shape steps outcomes ++ report_of shape.words final.log
