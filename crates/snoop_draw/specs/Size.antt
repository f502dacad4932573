-- How large a drawing is.
-- Source: this project's profile.
use Rattle.std.specs.Prelude.{ℕ, ◌+◌, ◌-◌, ◌*◌, ◌≤◌, List, [], ◌∷◌, length, min}
use Rattle.snoop_engine.specs.Chosen.{Chosen}
use Rattle.snoop_draw.specs.Panels.{Panel}

-- how many of so many steps have a number that is chosen
abbrev pub steps_within : Chosen → ℕ → ℕ
steps_within choice count = min choice.to count + 1 - choice.from

-- how many columns panels have: one for each core, one for the bus and one for memory
abbrev pub columns_of : List Panel → ℕ
columns_of [] = 0
columns_of (panel ∷ panels) = length panel.cores + 2 + columns_of panels

-- a drawing of so many steps with these panels has at most a million cells
abbrev pub IsSmall : Chosen → ℕ → List Panel → Type 0
IsSmall choice count panels = (steps_within choice count + 1) * (columns_of panels + 1) ≤ 1000000
