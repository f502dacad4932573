-- Blocks in the order in which they were first mentioned.
-- Source: this project's profile.
use Rattle.std.specs.Prelude.{ℕ, List}

-- how many blocks there are, and those that were mentioned, in order of first mention
pub record Mentions : Type 0 where
  pub blocks : ℕ
  pub order : List ℕ
