-- When a machine has come to rest.
-- Source: this project's profile.
use Rattle.std.specs.Prelude.{◌≡◌, ℕ, None}
use Rattle.snoop_model.specs.{Pictures.Situation.{Situation, picture_of, held_of}, Moves.Refuses.WaitsOnNone}

-- no core waits, no transaction is open, and no operation waits
pub record IsQuiet (s : Situation) : Type 0 where
  pub ordered : (core : ℕ) → WaitsOnNone s core
  pub closed : (block : ℕ) → (picture_of s block).transaction ≡ None
  pub performed : (core block : ℕ) → (held_of s core block).waiting ≡ None
