-- The frames of a run: each step, what was answered, and the machine before and after it.
-- Source: this project's profile.
use Rattle.std.specs.Prelude.{◌≡◌, List, [], ◌∷◌, map, Result}
use Rattle.snoop_trace.specs.{Extent.Extent, declared.{step.Step.Step, protocol.Protocol.Protocol}}
use Rattle.snoop_model.specs.{declared.replies.{Reply.Reply, Refused.Refused}, Pictures.Situation.{Situation, reset}, Runs.Run.{GoesFirst, TheRun}}

-- a step, what was answered, and the machine before and after it
pub record Frame : Type 0 where
  pub step : Step
  pub outcome : Result Reply Refused
  pub before : Situation
  pub after : Situation

-- the steps of frames
abbrev pub steps_of : List Frame → List Step
steps_of frames = map (λ frame. frame.step) frames

-- what was answered to them
abbrev pub outcomes_of : List Frame → List (Result Reply Refused)
outcomes_of frames = map (λ frame. frame.outcome) frames

-- the frame is one step from here
pub record IsFrameFrom (here : Situation) (frame : Frame) : Type 0 where
  pub before : frame.before ≡ here
  pub goes : GoesFirst frame.before frame.step frame.outcome frame.after

-- from old, these frames lead to new, each from where the one before it led
abbrev pub FramesFrom : Situation → List Frame → Situation → Type 0
FramesFrom old [] new = new ≡ old
FramesFrom old (frame ∷ frames) new = IsFrameFrom old frame × FramesFrom frame.after frames new

-- the frames of the run of these steps from reset
pub record AreFrames (protocol : Protocol) (shape : Extent) (steps : List Step) (frames : List Frame) (final : Situation) : Type 0 where
  pub whole : steps_of frames ≡ steps
  pub run : FramesFrom (reset protocol shape) frames final

-- a fact about the run of any steps: the protocol and the shape, the steps, their frames, and where they lead
abbrev pub OfAnySteps : (Protocol → Extent → List Step → List Frame → Situation → Type 0) → Type 0
OfAnySteps P =
    (protocol : Protocol) (shape : Extent) (steps : List Step) (frames : List Frame) (final : Situation) →
    AreFrames protocol shape steps frames final → P protocol shape steps frames final

-- the frames of some steps are the run of those steps
abbrev pub FramesAreTheRun : Type 0
FramesAreTheRun = OfAnySteps (λ protocol shape steps frames final. TheRun protocol shape steps (outcomes_of frames) final)
