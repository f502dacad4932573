-- Where the words of a block stand, and the zeros behind those that it has.
use Rattle.std.proofs.Common.{◌≡◌, ◌≤◌, ◌<◌, ℕ, ◌+◌, ◌-◌, ◌*◌, ◌/◌, ◌%◌, ◌^◌, List, length, replicate, slice_index_or, slice_set, sym, ap, ◌∙◌}
use Rattle.std.{proofs.Common.{subst, arith, inl, inr, suc, refl}, specs.Int.IsPowerOfTwo}
use Rattle.std.proofs.lemmas.List.{get_or_append_left, set-append_left, replicate-append-replicate}
use Rattle.snoop_trace.proofs.{Common.{Evict, Extent, HasWord, IsWithinLimits, cases_lt, div-mul-add, pow-add, pow_pos, word_address}, PowerLemmas.power_some}
use Rattle.std.proofs.Math.Nat.{pow-suc, mul-div_cancel, mul-div_cancel_left, div-lt_iff_lt-mul, mod-lt, mod-eq_of_lt, mul-lt-mul_of_pos_right, mul-add-mod_self_right}
use Rattle.std.proofs.Math.Pow.{pow_mono}
use Rattle.snoop_trace.specs.{declared.step.Op.Op, Grammar.{word_asked, word_in_block}, Words.{padded, word_at, zero_words}}

-- a power of two goes into a greater one
goes_into : (w b : ℕ) → IsPowerOfTwo w → IsPowerOfTwo b → w ≤ b → (k : ℕ) × ((0 < k) × (b ≡ w * k))
goes_into w b (i, e) (j, f) le = elim (cases_lt j i) [
  | inl less ↦
      let more : 2 ^ suc j ≤ 2 ^ i = pow_mono (omega (arith, less)) in
      absurd (omega (arith, more, le, e, f, pow-suc 2 j, pow_pos j))
  | inr high ↦
      let whole : i + (j - i) ≡ j = omega (arith, high) in
      (2 ^ (j - i), (pow_pos (j - i), rw (f, e, ← pow-add 2 i (j - i), whole) refl))
]

module _ (shape : Extent) (limits : IsWithinLimits shape) where
  -- the bytes of a word
  word_bytes : (0 < shape.block_bytes / shape.words) × (shape.block_bytes ≡ shape.words * (shape.block_bytes / shape.words))
  word_bytes =
      let fit : shape.words ≤ shape.block_bytes = omega (arith, power_some shape.block_bytes limits.block_bytes.0) in
      let (k, is) = goes_into shape.words shape.block_bytes limits.words.0 limits.block_bytes.0 fit in
      let size : shape.block_bytes / shape.words ≡ k = ap (λ (n : ℕ). n / shape.words) is.1 ∙ mul-div_cancel_left k (power_some shape.words limits.words.0) in
      rw size is

  -- the word of an address is one that the block has
  pub word_within : (address : ℕ) → word_in_block shape address < shape.words
  word_within address = (div-lt_iff_lt-mul word_bytes.0).1 (subst (λ (n : ℕ). address % shape.block_bytes < n) word_bytes.1 (mod-lt address (power_some shape.block_bytes limits.block_bytes.0)))

  module _ (block word : ℕ) (inside : word < shape.words) where
    -- a word begins within its block
    word_starts : word * (shape.block_bytes / shape.words) < shape.block_bytes
    word_starts = subst (λ (n : ℕ). word * (shape.block_bytes / shape.words) < n) (sym word_bytes.1) (mul-lt-mul_of_pos_right inside word_bytes.0)

    -- a word's address is read as its block and its word, and lies before the end of its block
    pub address_back : (word_address shape block word / shape.block_bytes ≡ block) × (word_in_block shape (word_address shape block word) ≡ word)
    address_back =
        let size = shape.block_bytes / shape.words in
        let word_back = mul-add-mod_self_right block shape.block_bytes (word * size) ∙ mod-eq_of_lt word_starts in
        (div-mul-add block shape.block_bytes (word * size) word_starts, ap (λ (n : ℕ). n / size) word_back ∙ mul-div_cancel word word_bytes.0)

    pub address_before : word_address shape block word < block * shape.block_bytes + shape.block_bytes
    address_before = omega (arith, word_starts)

-- if an address lies in one of the block's words, so does what is asked for
pub asked_of_few : (shape : Extent) (address : ℕ) (op : Op) → word_in_block shape address < shape.words → word_asked shape address op < shape.words
asked_of_few shape address Evict few = omega (arith, few)
asked_of_few shape address op few = few

-- the word that is asked for is one that the block has
pub asked_within : (shape : Extent) (address : ℕ) (op : Op) → IsWithinLimits shape → word_asked shape address op < shape.words
asked_within shape address op limits = asked_of_few shape address op (word_within shape limits address)

-- an operation may be of the word that is asked for: no word that a block has lies past the places
pub word_there : (shape : Extent) (address : ℕ) (op : Op) → IsWithinLimits shape → HasWord shape (word_asked shape address op) op
word_there shape address Evict limits = tt
word_there shape address op limits = let few = asked_within shape address op limits in (few, omega (arith, few, limits.words.1))

-- words that are held, and those that are not, which are 0
pub padded_at : (n : ℕ) (values : List ℕ) (word : ℕ) → length values ≡ n → word < n → word_at (padded n values) word ≡ slice_index_or values word 0
padded_at n values word long within = get_or_append_left values (replicate (64 - n) 0) 0 word (omega arith)

pub padded_set : (n : ℕ) (values : List ℕ) (word value : ℕ) → length values ≡ n → word < n → slice_set (padded n values) word value ≡ padded n (slice_set values word value)
padded_set n values word value long within = set-append_left values (replicate (64 - n) 0) word value (omega arith)

pub padded_zero : (n : ℕ) → n ≤ 64 → padded n (replicate n 0) ≡ zero_words
padded_zero n few =
    let whole : n + (64 - n) ≡ 64 = omega arith in
    replicate-append-replicate n (64 - n) 0 ∙ ap (λ (k : ℕ). replicate k 0) whole
