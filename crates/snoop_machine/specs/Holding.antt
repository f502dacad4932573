-- How many lines a core's map has, from step to step.
-- Source: this project's profile.
use Rattle.std.specs.Prelude.{◌≡◌, ◌≢◌, ◌≤◌, ◌+◌, ℕ, true, false}
use Rattle.snoop_trace.specs.{Words.HasWord, declared.step.Step.{Step, TheVariants.Ask}}
use Rattle.snoop_trace.specs.declared.step.Op.TheVariants as op
use Rattle.snoop_rules.specs.declared.names.CacheState.TheVariants.{I}
use Rattle.snoop_model.specs.{Pictures.Situation.{Situation, state_of}, Moves.Move.IsWithin}
use Rattle.snoop_machine.specs.Standing.{Standing, line_count, has_line}

-- the step is an Ask of the core that leaves I, a load or a store of a block that the core does not hold, and its map has no line for the block yet
abbrev pub NeedsLine : Standing → Step → ℕ → Type 0
NeedsLine s (Ask asker block word asking) core =
    (asker ≡ core) × IsWithin s.situation asker block × (asking ≢ op.Evict) × (state_of s.situation asker block ≡ I) × (has_line s asker block ≡ false) × HasWord s.situation.shape word asking
NeedsLine s _ core = ⊥

-- the core has moved to I on some block
abbrev pub MovesToI : Situation → Situation → ℕ → Type 0
MovesToI old new core = (block : ℕ) × ((state_of old core block ≢ I) × (state_of new core block ≡ I))

-- an Ask that needs a line adds one for its core at most; where a core moves to I one line of it goes; nothing else changes how many there are
pub record HoldsOn (old new : Standing) (step : Step) (core : ℕ) : Type 0 where
  pub raised : NeedsLine old step core → (line_count old core ≤ line_count new core) × (line_count new core ≤ line_count old core + 1)
  pub lowered : MovesToI old.situation new.situation core → line_count new core + 1 ≡ line_count old core
  pub same : ¬ NeedsLine old step core → ¬ MovesToI old.situation new.situation core → line_count new core ≡ line_count old core

-- the core's map has a line for each block that the core holds
abbrev pub HasHeldLines : Standing → ℕ → Type 0
HasHeldLines s core = (block : ℕ) → state_of s.situation core block ≢ I → has_line s core block ≡ true
