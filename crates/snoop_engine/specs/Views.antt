-- What a view writes of a run, and what it sees of a step.
-- Source: this project's profile.
use Rattle.std.specs.Prelude.{◌≡◌, ℕ, ◌+◌, List, [], ◌∷◌, ◌++◌, length, Option, Some, slice_get}
use Rattle.snoop_trace.specs.{Extent.Extent, declared.{step.Step.{Step, TheVariants.{Ask, Order, Respond}}, protocol.Protocol.Protocol}}
use Rattle.snoop_bus.specs.Queues.{queue_of}
use Rattle.snoop_model.specs.{Pictures.Situation.{Situation, reset}, Runs.Run.GoesFirst}
use Rattle.snoop_engine.specs.{Frames.{Frame, FramesFrom}, Taken.lines_of_step, declared.seen.Seen.Seen}

-- what is shown of each of some frames, by the frames before it, of which these are the first
abbrev pub shown : (List Frame → Frame → List ℕ) → List Frame → List Frame → List ℕ
shown shows before [] = []
shown shows before (frame ∷ frames) = shows before frame ++ shown shows (before ++ frame ∷ []) frames

-- all that is written of a run: a heading, what is shown of each frame, and an ending
abbrev pub view_text : List ℕ → (List Frame → Frame → List ℕ) → (List Frame → Situation → List ℕ) → List Frame → Situation → List ℕ
view_text heading shows ending frames final = heading ++ shown shows [] frames ++ ending frames final

-- the frame of a step that is seen, between the machine before it and the machine after it
abbrev pub frame_seen : Situation → Seen → Situation → Frame
frame_seen before seen after = record { step = seen.step; outcome = seen.outcome; before = before; after = after }

-- the block that a step is of, by the machine before it; an Order is of the head of the core's queue
abbrev pub block_of_step : Situation → Step → Option ℕ
block_of_step s (Ask core block word asking) = Some block
block_of_step s (Order core) = slice_get (queue_of s.queues core) 0
block_of_step s (Respond block) = Some block

-- what is seen is the next step of a run from reset, of which these are the frames so far
pub record IsNextSeen (protocol : Protocol) (shape : Extent) (frames : List Frame) (before : Situation) (seen : Seen) (after : Situation) : Type 0 where
  pub run : FramesFrom (reset protocol shape) frames before
  pub goes : GoesFirst before seen.step seen.outcome after
  pub lines : seen.lines.now ≡ lines_of_step before seen.step seen.outcome
  pub block : seen.block ≡ block_of_step before seen.step
  pub number : seen.number ≡ 1 + length frames
