-- How wide the numbers of a text are.
-- Source: this project's profile.
use Rattle.std.specs.{Prelude.{ℕ, List, [], ◌∷◌, length, max}, Fmt.decimal}
use Rattle.snoop_trace.specs.declared.step.{Op.TheVariants.Store, Step.{Step, TheVariants.Ask}}

-- how many decimal digits a number has
abbrev pub digits : ℕ → ℕ
digits number = length (decimal number)

-- the value that a step stores, or 0
abbrev pub stored : Step → ℕ
stored (Ask core block word (Store value)) = value
stored _ = 0

-- the largest value that the steps store, or 0
abbrev pub most_stored : List Step → ℕ
most_stored [] = 0
most_stored (step ∷ steps) = max (stored step) (most_stored steps)
