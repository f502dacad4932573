-- How the records of a text follow one another.
use Rattle.std.proofs.Common.{◌≡◌, ◌≤◌, ◌<◌, ℕ, ◌+◌, List, [], ◌∷◌, length, Option, Some, None, true, false, refl, arith, inl, inr, add-one}
use Rattle.std.specs.Prelude.{zero, suc}
use Rattle.snoop_trace.proofs.Common.{State, cases_Bool}
use Rattle.csv.specs.{Machine.{Read, in_field, next_record, step, is_end, ends_at_end, fields_after, field_after, after_end}, declared.parser.Config.Config}
use Rattle.csv.specs.{Reading.{records_from, records_next}, declared.parser.Terminator.Terminator}
use Rattle.csv.specs.declared.parser.State.TheVariants as st
use Rattle.csv.specs.declared.parser.Terminator.TheVariants as term

pub records-ended : (cfg : Config) (m : ℕ) (s : State) (xs : List ℕ) → next_record cfg s [] [] xs ≡ None → records_from cfg m s xs ≡ []
unfolding records_from
records-ended cfg zero s xs h = refl
records-ended cfg (suc m) s xs h = rw h refl

-- where a byte ends a record, none is begun
fresh-end : (t : Terminator) (c : ℕ) → ends_at_end (after_end t c) ≡ false
fresh-end term.CRLF c = grind arith
fresh-end (term.Any t) c = refl

fresh-field : (cfg : Config) (c : ℕ) → is_end (in_field cfg c).1 ≡ true → ends_at_end (in_field cfg c).0 ≡ false
fresh-field cfg c h = grind (arith, fresh-end)

fresh-step : (cfg : Config) (s : State) (c : ℕ) → is_end (step cfg s c).1 ≡ true → ends_at_end (step cfg s c).0 ≡ false
fresh-step cfg st.InField c h = fresh-field cfg c h
fresh-step cfg s c h = grind (arith, fresh-field)

-- what a read leaves: fewer bytes where it began at no record, and no record begun
pub record Shorter (s : State) (xs : List ℕ) (p : Read) : Type 0 where
  pub less : ends_at_end s ≡ false → length p.2 < length xs
  pub most : length p.2 ≤ length xs
  pub fresh : ends_at_end p.1 ≡ false

pub record-shorter : (cfg : Config) (s : State) (fields : List (List ℕ)) (field : List ℕ) (xs : List ℕ) (p : Read)
    → next_record cfg s fields field xs ≡ Some p → Shorter s xs p
unfolding next_record
record-shorter cfg s fields field [] p h = grind arith
record-shorter cfg s fields field (c ∷ xs) p h =
    elim (cases_Bool (is_end (step cfg s c).1)) [
      | inl e ↦ let fresh = fresh-step cfg s c e in grind arith
      | inr e ↦
          let rest = record-shorter cfg (step cfg s c).0 (fields_after (step cfg s c).1 fields field) (field_after (step cfg s c).1 c field) xs p (rw e at h) in
          record { less = λ n. omega arith; most = omega arith; fresh = rest.fresh }
    ]

-- the same after the next record is the same
same_next : (f g : State → List ℕ → List (List (List ℕ))) (o : Option Read) → ((p : Read) → o ≡ Some p → f p.1 p.2 ≡ g p.1 p.2) → records_next f o ≡ records_next g o
same_next f g None h = refl
same_next f g (Some p) h = rw (h p refl) refl

-- where no record is begun, any bound that is not below the bytes that are left gives the same records
records-same : (cfg : Config) (m n : ℕ) (s : State) (xs : List ℕ) → ends_at_end s ≡ false → length xs ≤ m → length xs ≤ n
    → records_from cfg m s xs ≡ records_from cfg n s xs
unfolding records_from next_record
records-same cfg m n s [] fresh h k = rw (records-ended cfg m s [] (rw fresh refl), records-ended cfg n s [] (rw fresh refl)) refl
records-same cfg (suc m) (suc n) s (c ∷ xs) fresh h k =
    same_next (records_from cfg m) (records_from cfg n) _ (λ p next.
    let short = record-shorter cfg s [] [] (c ∷ xs) p next in
    records-same cfg m n p.1 p.2 short.fresh (omega (arith, short.less fresh)) (omega (arith, short.less fresh)))
records-same _ _ _ s (c ∷ xs) fresh h k = absurd (omega arith)

-- the next record of a text, and the records that are left
pub records_step : (cfg : Config) (s : State) (xs : List ℕ) (p : Read) → next_record cfg s [] [] xs ≡ Some p
    → records_from cfg (length xs + 1) s xs ≡ p.0 ∷ records_from cfg (length p.2 + 1) p.1 p.2
unfolding records_from
records_step cfg s xs p next =
    let short = record-shorter cfg s [] [] xs p next in
    rw (add-one, next, records-same cfg (length xs) (length p.2 + 1) p.1 p.2 short.fresh short.most (omega arith)) refl
