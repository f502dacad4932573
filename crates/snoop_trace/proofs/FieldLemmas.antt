-- The fields of a record, by their number.
use Rattle.std.proofs.Common.{◌≡◌, ℕ, List, [], ◌∷◌, length, get_or, Some, None, ap, arith, refl}
use Rattle.csv.specs.Records.{field_at}
use Rattle.snoop_trace.specs.{Grammar.{letter_of, one_of, three_of, two_of}, Heading.{five_of, version_field}}
pub use Rattle.csv.proofs.RecordFacts.{field-there as field_there}

pub one_at : (fs : List (List ℕ)) (a : List ℕ) → length fs ≡ 2 → Some a ≡ field_at fs 1 → Some a ≡ one_of fs
unfolding field_at
one_at (k ∷ x ∷ []) a h p = p
one_at _ a h p = absurd (omega arith)

pub two_at : (fs : List (List ℕ)) (a b : List ℕ) → length fs ≡ 3 → Some a ≡ field_at fs 1 → Some b ≡ field_at fs 2 → Some (a, b) ≡ two_of fs
unfolding field_at
two_at (k ∷ x ∷ y ∷ []) a b h p q = cc
two_at _ a b h p q = absurd (omega arith)

pub three_at : (fs : List (List ℕ)) (a b c : List ℕ) → length fs ≡ 4 → Some a ≡ field_at fs 1 → Some b ≡ field_at fs 2 → Some c ≡ field_at fs 3 → Some (a, b, c) ≡ three_of fs
unfolding field_at
three_at (k ∷ x ∷ y ∷ z ∷ []) a b c h p q r = cc
three_at _ a b c h p q r = absurd (omega arith)

pub version_at : (fs : List (List ℕ)) → field_at fs 1 ≡ version_field fs
unfolding field_at
version_at (k ∷ v ∷ fs) = refl
version_at _ = refl

pub five_at : (fs : List (List ℕ)) (a b c d e : List ℕ) → length fs ≡ 7
    → Some a ≡ field_at fs 2 → Some b ≡ field_at fs 3 → Some c ≡ field_at fs 4 → Some d ≡ field_at fs 5 → Some e ≡ field_at fs 6 → Some (a, b, c, d, e) ≡ five_of fs
unfolding field_at
five_at (k ∷ v ∷ u ∷ w ∷ x ∷ y ∷ z ∷ []) a b c d e h p q r s t = cc
five_at _ a b c d e h p q r s t = absurd (omega arith)

pub no_letter : (fs : List (List ℕ)) → field_at fs 0 ≡ None → None ≡ letter_of fs
unfolding field_at
no_letter [] h = refl
no_letter (f ∷ fs) h = cc

pub the_letter : (fs : List (List ℕ)) (f : List ℕ) → Some f ≡ field_at fs 0 → length f ≡ 1 → Some (get_or f 0 0) ≡ letter_of fs
unfolding field_at
the_letter [] f h one = cc
the_letter ((c ∷ []) ∷ fs) f h one = let is : f ≡ c ∷ [] = cc in rw is refl
the_letter (g ∷ fs) f h one = let is : f ≡ g = cc in absurd (omega (arith, ap length is))

pub other_letter : (fs : List (List ℕ)) (f : List ℕ) → Some f ≡ field_at fs 0 → (length f ≡ 1 → ⊥) → None ≡ letter_of fs
unfolding field_at
other_letter ((c ∷ []) ∷ fs) f h many = let is : f ≡ c ∷ [] = cc in absurd (many (ap length is))
other_letter _ f h many = refl
