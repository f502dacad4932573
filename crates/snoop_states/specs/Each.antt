-- Lists of so many elements, and what holds of each of them.
-- Source: this project's profile.
use Rattle.std.specs.{Prelude.{◌≡◌, ◌<◌, ℕ, List, length}, List.HoldsAt}

-- there are n elements, and of the one in each place this holds
pub record AreEach {X : Type 0} (n : ℕ) (P : ℕ → X → Type 0) (xs : List X) : Type 0 where
  pub count : length xs ≡ n
  pub each : (k : ℕ) → k < n → HoldsAt (P k) xs k
