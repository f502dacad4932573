-- Sets of cores, as the bits of four words.
-- Source: this project's profile.
use Rattle.std.specs.{Prelude.{◌≡◌, ℕ, ◌/◌, ◌%◌, ◌<◌, ◌≤◌, ◌==◌, Bool, true, false, List, [], length, slice_index_or}, Int.bit_at}

-- whether the core is in the set of these words
unfoldable pub has : List ℕ → ℕ → Bool
has words core = bit_at (slice_index_or words (core / 64) 0) (core % 64) == 1

-- no core from one up to another is in the set
abbrev pub LacksUpTo : List ℕ → ℕ → ℕ → Type 0
LacksUpTo words from to = (k : ℕ) → from ≤ k → k < to → has words k ≡ false

-- the set of a block, of those of all blocks
abbrev pub set_of : List (List ℕ) → ℕ → List ℕ
set_of sets block = slice_index_or sets block []

-- the core is put into the set of the block, where both are there, and no other is
pub record Puts (block core : ℕ) (old new : List (List ℕ)) : Type 0 where
  pub many : length new ≡ length old
  pub here : block < length old → core < 256 → has (set_of new block) core ≡ true
  pub apart : (other one : ℕ) → (other ≡ block → one ≡ core → ⊥) → has (set_of new other) one ≡ has (set_of old other) one
