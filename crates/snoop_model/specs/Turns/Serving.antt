-- What holds between the turns of cores that have one work at a time, and what their steps cost.
-- Source: this project's profile.
use Rattle.std.specs.Prelude.{◌≡◌, ℕ, ◌+◌, ◌*◌, Bool, length, All, Option, Some, is_some, sum_by, count_by, ⊤}
use Rattle.snoop_trace.specs.declared.step.Step.{Step, TheVariants.Ask}
use Rattle.snoop_bus.specs.{Traffic.Open, Queues.queue_of}
use Rattle.snoop_model.specs.Pictures.{Picture.Picture, Situation.{Situation, picture_of}}

-- a core waits, and has a transaction open, only on the block of its work under way
pub record IsServing (under_way : ℕ → Option ℕ) (s : Situation) : Type 0 where
  pub waits : (core : ℕ) → All (λ block. under_way core ≡ Some block) (queue_of s.queues core)
  pub opened : (block : ℕ) (transaction : Open) → (picture_of s block).transaction ≡ Some transaction → under_way transaction.core ≡ Some block

-- a core that asks has this block under way
abbrev pub IsUnderWay : (ℕ → Option ℕ) → Step → Type 0
IsUnderWay under_way (Ask core block word asking) = under_way core ≡ Some block
IsUnderWay under_way _ = ⊤

-- a transaction is open on the block of this picture
abbrev pub has_transaction : Picture → Bool
has_transaction picture = is_some picture.transaction

-- the steps still to come for what was asked: two for each request that waits, and one for each open transaction
abbrev pub steps_owed : Situation → ℕ
steps_owed s = 2 * sum_by length s.queues + count_by has_transaction s.pictures

-- what a step pays in: an Ask three, of which one is its own
abbrev pub steps_paid : Step → ℕ
steps_paid (Ask core block word asking) = 3
steps_paid _ = 0
