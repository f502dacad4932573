-- What the views of counts have watched of a run, and what the one by steps has counted.
-- Source: this project's profile.
use Rattle.std.specs.{Prelude.{◌≡◌, List, ◌%◌, IsSomeAnd, length}, Int.NonZero.non_zero_u64_get}
use Rattle.snoop_trace.specs.{Extent.Extent, declared.protocol.Protocol.Protocol}
use Rattle.snoop_model.specs.Pictures.Situation.{Situation, reset}
use Rattle.snoop_engine.specs.Frames.{Frame, FramesFrom}
use Rattle.snoop_counts.specs.{BySteps.seen_last, LastSteps.KnowsLastSteps, Tally.HasCounted}
use Rattle.snoop_counts.specs.declared.{by_steps.BySteps.BySteps, count.Subjects.TheVariants.Machine, watch.Watch.Watch}

-- the watch has followed these frames of a run, and seen the history so far
pub record HasWatched (protocol : Protocol) (shape : Extent) (frames : List Frame) (watch : Watch) : Type 0 where
  pub follows : KnowsLastSteps frames watch.copies
  pub items : (here : Situation) → FramesFrom (reset protocol shape) frames here → watch.items ≡ length here.log

-- the run has begun, and the steps since the last line are counted
pub record HasBegunBySteps (protocol : Protocol) (shape : Extent) (frames : List Frame) (first now : BySteps) : Type 0 where
  pub every : now.every ≡ first.every
  pub steps : now.steps ≡ length frames
  pub watched : HasWatched protocol shape frames now.watch
  pub counted : IsSomeAnd now.tally (HasCounted Machine 1 (seen_last (length frames % non_zero_u64_get first.every) frames))
