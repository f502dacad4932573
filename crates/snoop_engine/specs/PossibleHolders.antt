-- What is known before a step is taken: the cores that may hold something of a block, and the request that an Order takes.
-- Source: this project's profile.
use Rattle.std.specs.Prelude.{◌≡◌, ℕ, false, List, length, Option, Some, None, slice_get}
use Rattle.snoop_trace.specs.declared.step.Step.{Step, TheVariants.{Ask, Order, Respond}}
use Rattle.snoop_rules.specs.declared.names.{CacheState.TheVariants.I, Request.Request}
use Rattle.snoop_bus.specs.Queues.{queue_of}
use Rattle.snoop_blocks.specs.CoreSet.{has, set_of}
use Rattle.snoop_model.specs.Pictures.Situation.{IsHead, Situation, state_of}

-- each core that is not in the set is in I of the block
abbrev pub AreOthersInI : Situation → ℕ → List ℕ → Type 0
AreOthersInI s block set = (core : ℕ) → has set core ≡ false → state_of s core block ≡ I

-- there is a set for each block of the shape, outside of which each core is in I of the block
pub record ArePossibleHolders (s : Situation) (sets : List (List ℕ)) : Type 0 where
  pub many : length sets ≡ s.shape.blocks
  pub others : (block : ℕ) → AreOthersInI s block (set_of sets block)

-- what an Order takes: the core's oldest request and its block, or nothing where none waits
abbrev pub IsHeadFor : Situation → Step → Option (Request × ℕ) → Type 0
IsHeadFor s (Order core) (Some head) = IsHead s core head.0 head.1
IsHeadFor s (Order core) None = slice_get (queue_of s.queues core) 0 ≡ None
IsHeadFor s (Ask core block word asking) head = head ≡ None
IsHeadFor s (Respond block) head = head ≡ None
