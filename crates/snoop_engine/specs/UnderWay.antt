-- What is under way.
-- Source: this project's profile.
use Rattle.std.specs.Prelude.{ℕ, ◌==◌, Option, Some, None, if◌then◌else◌}
use Rattle.snoop_model.specs.{Pictures.Situation.Situation, Turns.Serving.IsServing, Invariant.WellKept.IsWellKept}

-- a machine that waits only for what is under way
pub record ServesOnly (under_way : ℕ → Option ℕ) (s : Situation) : Type 0 where
  pub kept : IsWellKept s
  pub serving : IsServing under_way s

-- nothing is under way
abbrev pub nothing : ℕ → Option ℕ
nothing core = None

-- one core has this block under way, and no other core has any
abbrev pub only : ℕ → ℕ → ℕ → Option ℕ
only core block other = if other == core then Some block else None
