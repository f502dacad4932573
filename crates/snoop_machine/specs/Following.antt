-- What a step does to how many lines each core's map has.
-- Source: this project's profile.
use Rattle.std.specs.Prelude.{◌≡◌, ℕ, ◌+◌, ◌⊎◌, false}
use Rattle.snoop_machine.specs.{declared.parts.step.{Asked.{Asked, TheVariants.Issue}, Plan.{Plan, TheVariants.Ask}}, Standing.{Standing, line_count, has_line}}
use Rattle.snoop_rules.specs.declared.names.CacheState.TheVariants.{I}
use Rattle.snoop_model.specs.Pictures.Situation.{state_of}
use Rattle.snoop_machine.specs.Holding.{MovesToI}

-- of a core's map as many lines go as blocks on which it moves to I, which is one at most
pub record LosesLines (old new : Standing) (core : ℕ) : Type 0 where
  pub lowered : MovesToI old.situation new.situation core → line_count new core + 1 ≡ line_count old core
  pub same : ¬ MovesToI old.situation new.situation core → line_count new core ≡ line_count old core

-- a core's map has as many lines as before, or one more where this is the core that leaves I on the block, and its map had no line for it
abbrev pub AddsLine : ℕ → ℕ → Standing → Standing → ℕ → Type 0
AddsLine asker block old new core =
    (line_count new core ≡ line_count old core) ⊎ ((asker ≡ core) × (state_of old.situation asker block ≡ I) × (has_line old asker block ≡ false) × (line_count new core ≡ line_count old core + 1))

-- the room for an Ask adds one line at most, and only where it issues a request that has no line yet
abbrev pub AddsLinesToAsk : Asked → ℕ → ℕ → Standing → Standing → ℕ → Type 0
AddsLinesToAsk (Issue request next) asker block old new core = AddsLine asker block old new core
AddsLinesToAsk _ asker block old new core = line_count new core ≡ line_count old core

-- the room for a step adds one line at most, and only where it is an Ask that issues a request that has no line yet
abbrev pub AddsLines : Plan → Standing → Standing → ℕ → Type 0
AddsLines (Ask asker block word asking asked) old new core = AddsLinesToAsk asked asker block old new core
AddsLines _ old new core = line_count new core ≡ line_count old core
