-- What one version shows of a core's operations, beside those that its seat was answered.
-- Source: this project's profile.
use Rattle.std.specs.Prelude.{◌≡◌, ◌≢◌, ℕ, ◌+◌, ◌-◌, ◌^◌, ◌<◌, List, [], ◌∷◌, ◌++◌, length, Option, Some, ⊤}
use Rattle.snoop_trace.specs.declared.step.Op.{Op}
use Rattle.snoop_trace.specs.declared.step.Op.TheVariants as op
use Rattle.snoop_history.specs.{declared.items.Did.Did, History.{answers_of, last_of}}
use Rattle.snoop_bench.specs.declared.work.Turn.{Turn}
use Rattle.snoop_bench.specs.declared.work.Turn.TheVariants as turn
use Rattle.snoop_versions.specs.Readings.{SeesHistory, StartsWith, Viewing}
use Rattle.snoop_cores.specs.declared.own.Own.{Own, TheVariants.{Unseen, Same, More, Strange}}

-- the largest count that a `u64` holds: it says only that there are so many or more
abbrev pub most : ℕ
most = 2 ^ 64 - 1

-- the reader is of the same shape, and what it has seen begins with what it had seen
pub record GoesOn (before after : Viewing) : Type 0 where
  pub begins : StartsWith after.seen before.seen
  pub shape : (after.cores ≡ before.cores) × (after.blocks ≡ before.blocks) × (after.words ≡ before.words)

-- what is seen is a machine's history, with the answers alone; or with one operation more, which is this one; or with several more, of which this one is the last
abbrev pub Shows : Own → ℕ → List Did → Viewing → Type 0
Shows Unseen core answers v = ⊤
Shows Same core answers v = (answers_of v.seen core ≡ answers) × SeesHistory v
Shows (More did) core answers v = (answers_of v.seen core ≡ answers ++ did ∷ []) × SeesHistory v
Shows (Strange did) core answers v = (last_of v.seen core ≡ Some did) × (length answers + 1 < length (answers_of v.seen core)) × SeesHistory v

-- what is judged from the count of the core's operations, the last of them, and the number of answers
abbrev pub Judged : Own → Option ℕ → Option Did → ℕ → Type 0
Judged Unseen count last answered = ⊤
Judged Same count last answered = (count ≡ Some answered) × (answered < most)
Judged (More did) count last answered = (count ≡ Some (answered + 1)) × (last ≡ Some did) × (answered + 1 < most)
Judged (Strange did) count last answered = (number : ℕ) × (count ≡ Some number) × (last ≡ Some did) × (number < most) × (number ≢ answered) × (number ≢ answered + 1)

-- a work is over in the way of its operation: a load with a value, a store, an eviction with its answer
abbrev pub EndsWork : Op → Turn → Type 0
EndsWork op.Load (turn.Loaded value) = ⊤
EndsWork (op.Store stored) turn.Stored = ⊤
EndsWork op.Evict (turn.Evicted evicted) = ⊤
EndsWork _ _ = ⊥
