-- Why a turn is refused.
-- Source: this project's profile.
use Rattle.std.specs.Prelude.{◌⊎◌, ◌≡◌, ◌≢◌, ℕ, ◌<◌, ◌≤◌, Some}
use Rattle.snoop_trace.specs.{Words.HasWord, declared.step.Work.Work}
use Rattle.snoop_bench.specs.{declared.work.AdvanceFault.{AdvanceFault, TheVariants.{NoCore, NoBlock, Other, NoMemory}}, Works.work_at, Locked.Locked}

-- the core and the block are within the shape, and so is the word that is loaded or stored
abbrev pub IsInside : ℕ → Work → Locked → Type 0
IsInside core work b = (core < b.situation.shape.cores) × (work.block < b.situation.shape.blocks) × HasWord b.situation.shape work.word work.op

-- the core has another work under way
abbrev pub HasOther : ℕ → Work → Work → Locked → Type 0
HasOther core work other b = (work_at b.works core ≡ Some other) × (other ≢ work)

-- when each fault is answered; out of memory only where no other fault holds
abbrev pub RefusesTurn : AdvanceFault → ℕ → Work → Locked → Type 0
RefusesTurn NoCore core work b = b.situation.shape.cores ≤ core
RefusesTurn NoBlock core work b = (core < b.situation.shape.cores) × ((b.situation.shape.blocks ≤ work.block) ⊎ (¬ HasWord b.situation.shape work.word work.op))
RefusesTurn (Other other) core work b = IsInside core work b × HasOther core work other b
RefusesTurn NoMemory core work b = IsInside core work b × ((other : Work) → ¬ HasOther core work other b)

-- the fault, where there is one beside memory, is answered
abbrev pub MustRefuse : AdvanceFault → ℕ → Work → Locked → Type 0
MustRefuse NoMemory core work b = ⊥
MustRefuse fault core work b = RefusesTurn fault core work b
