-- Ranges: a list that grows piece by piece, over the numbers from 0; which numbers of a range are kept.
use Rattle.snoop_engine.proofs.Common.{common_steps, ◌≡◌, ℕ, zero, suc, ◌+◌, ◌<◌, ◌≤◌, Bool, List, [], ◌∷◌, ◌++◌, filter, refl, sym, ap, ◌∙◌, inl, inr, arith, flat_map, range_with_len, cases_lt, flat_map_more, map-id}
use Rattle.std.proofs.lemmas.List.FromFn.{map-range_with_len_more}

-- one number more
pub more_from_zero : (n : ℕ) → range_with_len 0 (n + 1) ≡ range_with_len 0 n ++ n ∷ []
more_from_zero n =
    sym (map-id (range_with_len 0 (n + 1))) ∙ map-range_with_len_more (λ (k : ℕ). k) 0 n n (omega arith) ∙ ap (λ (l : List ℕ). l ++ n ∷ []) (map-id (range_with_len 0 n))

-- the piece of the next number comes after the pieces so far
pub range_piece : {A : Type 0} (f : ℕ → List A) (i : ℕ) (before now next : List A) → now ≡ before ++ flat_map f (range_with_len 0 i) → next ≡ now ++ f i → next ≡ before ++ flat_map f (range_with_len 0 (i + 1))
range_piece f i before now next far e = rw (e, far, more_from_zero i) (flat_map_more f before (range_with_len 0 i) i)

-- numbers that give nothing may be left out at the end
pub range_stops : {A : Type 0} (f : ℕ → List A) (a b : ℕ) → a ≤ b → ((k : ℕ) → a ≤ k → k < b → f k ≡ []) → flat_map f (range_with_len 0 b) ≡ flat_map f (range_with_len 0 a)
range_stops {A} f a zero le none = let same : 0 ≡ a = omega arith in ap (λ (n : ℕ). flat_map f (range_with_len 0 n)) same
range_stops {A} f a (suc b) le none =
    let below : (k : ℕ) → a ≤ k → k < b → f k ≡ [] = λ k low high. none k low (omega arith) in
    let rest = λ (up : a ≤ b). range_stops f a b up below in
    grind (arith, common_steps, more_from_zero b, flat_map_more f [] (range_with_len 0 b) b, none b, rest)

-- ranges give the same up to two numbers, where each number from the lower one on gives nothing
pub range_same : {A : Type 0} (f : ℕ → List A) (a b : ℕ) → ((k : ℕ) → a ≤ k → f k ≡ []) → ((k : ℕ) → b ≤ k → f k ≡ []) → flat_map f (range_with_len 0 a) ≡ flat_map f (range_with_len 0 b)
range_same {A} f a b from_a from_b = elim (cases_lt a b) [
  | inl below ↦ sym (range_stops f a b (omega arith) (λ k low high. from_a k low))
  | inr up ↦ range_stops f b a up (λ k low high. from_b k low)
]

-- tests that agree on a range keep the same of it
pub filter_range : (p q : ℕ → Bool) (from n : ℕ) → ((k : ℕ) → from ≤ k → k < from + n → p k ≡ q k) → filter p (range_with_len from n) ≡ filter q (range_with_len from n)
filter_range p q from zero same = refl
filter_range p q from (suc n) same =
    rw (same from (omega arith) (omega arith), filter_range p q (from + 1) n (λ k up below. same k (omega arith) (omega arith)))
