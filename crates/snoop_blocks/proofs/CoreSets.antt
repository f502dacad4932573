-- The bits of a set of cores.
use Rattle.std.proofs.Common.{◌≡◌, ◌≢◌, ℕ, ◌+◌, ◌-◌, ◌*◌, ◌/◌, ◌%◌, ◌^◌, ◌<◌, ◌≤◌, List, length, get_or, true, false, refl, arith, inl, inr, w64}
use Rattle.std.{specs.{Prelude.{slice_index_or, slice_set, ◌==◌}, Int.{bit_at, trailing_zeros}}, proofs.lemmas.{Bool.{cases_eq, cases_lt}, Nat.shr-shr}}
use Rattle.std.proofs.lemmas.{List.{get_or-set_same, get_or-set_other, get_or_past}, Nat.Bits.{bit_at-zero, bit_at_above, bit_at-trailing_zeros}}
use Rattle.snoop_blocks.specs.{CoreSet.{has, LacksUpTo}, contracts.core_set.CoreSetDefault.TheImpl.{is_default-value}}

-- a core beyond the words is in no set
pub has_past : (words : List ℕ) (k : ℕ) → length words ≡ 4 → 256 ≤ k → has words k ≡ false
unfolding has
has_past words k long past = rw (get_or_past words (k / 64) 0 (omega arith), bit_at-zero (k % 64)) refl

-- a set that is made by default has no core
pub no_cores : (set : List ℕ) → is_default-value.it set → (k : ℕ) → has set k ≡ false
unfolding has
no_cores set (made, is, zeros) k =
    let zero_word : slice_index_or made.words (k / 64) 0 ≡ 0 = elim (cases_lt (k / 64) 4) [ inl lt ↦ zeros.at (k / 64) 0 lt | inr ge ↦ get_or_past made.words (k / 64) 0 (omega (arith, zeros.long)) ] in
    rw (← is, zero_word, bit_at-zero (k % 64)) refl

-- a word is new
module _ (words : List ℕ) (core word : ℕ) (long : length words ≡ 4) (few : core < 256) where
  -- its bit for the core is what the set says of it
  pub has-set_here : has (slice_set words (core / 64) word) core ≡ (bit_at word (core % 64) == 1)
  unfolding has
  has-set_here = rw (get_or-set_same words (core / 64) word 0 (omega arith)) refl

  -- where its other bits are the old ones, the set says the same of the other cores
  pub has-set_other : ((i : ℕ) → i < 64 → i ≢ core % 64 → bit_at word i ≡ bit_at (get_or words (core / 64) 0) i)
      → (k : ℕ) → k ≢ core → has (slice_set words (core / 64) word) k ≡ has words k
  unfolding has
  has-set_other same k other = elim (cases_eq (k / 64) (core / 64)) [
    | inl e ↦ rw (e, get_or-set_same words (core / 64) word 0 (omega arith), same (k % 64) (omega arith) (omega arith)) refl
    | inr ne ↦ rw (get_or-set_other words (core / 64) (k / 64) word 0 ne) refl
  ]

-- the bits of a word from one on, where no core was in the set before
module _ (words : List ℕ) {now : List ℕ} (view : words ≡ now) (from left : ℕ) (is : left ≡ get_or words (from / 64) 0 / 2 ^ (from % 64))
    (first : ℕ) (so_far : LacksUpTo now first from × (first ≤ from)) where
  bits_of : (i : ℕ) → bit_at left i ≡ bit_at (get_or words (from / 64) 0) (from % 64 + i)
  bits_of i = rw (is, shr-shr (get_or words (from / 64) 0) (from % 64) i) refl

  -- those are of the cores of the word
  has_at : (k : ℕ) → from ≤ k → k / 64 ≡ from / 64 → has now k ≡ (bit_at left (k - from) == 1)
  unfolding has
  has_at k up same = let place : k % 64 ≡ from % 64 + (k - from) = omega arith in rw (bits_of (k - from), ← view, same, place) refl

  -- where the bits up to one are 0, no core up to that one is in the set
  lacks_more : (n : ℕ) → from % 64 + n ≤ 64 → ((i : ℕ) → i < n → bit_at left i ≡ 0) → LacksUpTo now first (from + n)
  lacks_more n small none = λ k up below. elim (cases_lt k from) [
    | inl less ↦ so_far.0 k up less
    | inr above ↦ rw (has_at k above (omega arith), none (k - from) (omega arith)) refl
  ]

  -- where no bit is left, no core of the word is in the set
  pub next_word : left ≡ 0 → LacksUpTo now first ((from / 64 + 1) * 64) × (first ≤ (from / 64 + 1) * 64)
  next_word none =
      let place : (from / 64 + 1) * 64 ≡ from + (64 - from % 64) = omega arith in
      rw place (lacks_more (64 - from % 64) (omega arith) (λ i _. rw none (bit_at-zero i)), omega arith)

  -- the lowest bit that is left is that of the next core
  pub next_core : from < 256 → get_or words (from / 64) 0 < 2 ^ 64 → left ≢ 0 → left < 2 ^ 64 → let n = trailing_zeros w64 left in
      (first ≤ from + n) × (from + n < 256) × (has now (from + n) ≡ true) × LacksUpTo now first (from + n)
  next_core test fits some below =
      let n = trailing_zeros w64 left in
      let lowest = bit_at-trailing_zeros w64 left (omega arith) below in
      let small : from % 64 + n < 64 = grind (arith, bits_of n, bit_at_above (get_or words (from / 64) 0) 64 (from % 64 + n) fits) in
      let place : from + n - from ≡ n = omega arith in
      (omega arith, omega arith, rw (has_at (from + n) (omega arith) (omega arith), place, lowest.1) refl, lacks_more n (omega arith) lowest.2)
