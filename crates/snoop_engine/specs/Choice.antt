-- Which choices there are.
-- Source: this project's profile.
use Rattle.std.specs.Prelude.{◌≡◌, ◌<◌, ◌≤◌, ℕ, Option, IfSome, Result, Ok, Err}
use Rattle.snoop_trace.specs.Extent.{Extent}
use Rattle.snoop_engine.specs.{Chosen.Chosen, declared.choice.ChoiceFault.{ChoiceFault, TheVariants.{BadBlock, BadRange}}}

-- the block, if one is named, is one of the shape
abbrev pub IsBlock : Extent → Option ℕ → Type 0
IsBlock shape block = IfSome block (λ b. b < shape.blocks)

-- numbers are from 1, and a range does not end before it begins
abbrev pub IsRange : ℕ → ℕ → Type 0
IsRange from to = (1 ≤ from) × (from ≤ to)

-- the choice, or the first of its faults
abbrev pub IsChoice : Extent → Option ℕ → ℕ → ℕ → Result Chosen ChoiceFault → Type 0
IsChoice shape block from to (Ok choice) = (choice ≡ record { block = block; from = from; to = to }) × IsBlock shape block × IsRange from to
IsChoice shape block from to (Err BadBlock) = ¬ IsBlock shape block
IsChoice shape block from to (Err BadRange) = IsBlock shape block × ¬ IsRange from to
