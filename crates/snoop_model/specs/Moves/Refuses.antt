-- When a step is refused, and why.
-- Source: this project's profile.
use Rattle.std.specs.Prelude.{◌≡◌, ℕ, ◌<◌, ◌≤◌, ◌⊎◌, None, IsSome}
use Rattle.snoop_trace.specs.{Words.HasWord, declared.step.Step.{Step, TheVariants.{Ask, Order, Respond}}}
use Rattle.snoop_rules.specs.{declared.names.{CacheState.CacheState, CacheAction.TheVariants.Stall, Request.Request}, Cell.Cell, Takers.asked}
use Rattle.snoop_model.specs.declared.replies.Refused.{Refused, TheVariants.{NoCore, NoBlock, Stalled, NothingWaiting, BusTaken, NoTransaction, NoMemory}}
use Rattle.snoop_model.specs.{Pictures.Situation.{Situation, picture_of, state_of, Waits, StandsFirst}, Moves.Move.IsWithin}

-- the core waits on no block
abbrev pub WaitsOnNone : Situation → ℕ → Type 0
WaitsOnNone s core = (block : ℕ) (request : Request) → ¬ Waits s core block request

-- the step may be refused for this cause, the first that holds; out of memory is none of them
abbrev pub Refuses : Situation → Step → Refused → Type 0
Refuses s (Ask core block word asking) NoCore = s.shape.cores ≤ core
Refuses s (Ask core block word asking) NoBlock = (core < s.shape.cores) × ((s.shape.blocks ≤ block) ⊎ (¬ HasWord s.shape word asking))
Refuses s (Ask core block word asking) (Stalled state) = IsWithin s core block × (state ≡ state_of s core block) × ((next : CacheState) × Cell s.protocol (state_of s core block) (asked asking) Stall next) × HasWord s.shape word asking
Refuses s (Order core) NoCore = s.shape.cores ≤ core
Refuses s (Order core) NothingWaiting = (core < s.shape.cores) × WaitsOnNone s core
Refuses s (Order core) (BusTaken block) = (core < s.shape.cores) × StandsFirst s core block × IsSome (picture_of s block).transaction
Refuses s (Respond block) NoBlock = s.shape.blocks ≤ block
Refuses s (Respond block) NoTransaction = (block < s.shape.blocks) × ((picture_of s block).transaction ≡ None)
Refuses s _ _ = ⊥

-- the step may be refused for this cause: the first that holds, or out of memory where none does
abbrev pub RefusedFor : Situation → Step → Refused → Type 0
RefusedFor s step NoMemory = (cause : Refused) → ¬ Refuses s step cause
RefusedFor s step cause = Refuses s step cause
