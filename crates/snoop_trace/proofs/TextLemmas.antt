-- How the records that were read so far stand in the whole text.
use Rattle.std.proofs.lemmas.Option.{IfSome_then}
use Rattle.std.proofs.Common.{◌≡◌, ℕ, ◌+◌, List, [], ◌∷◌, ◌++◌, Option, Some, None, true, false, refl, ◌∙◌, add-one, ap, append_assoc, arith}
use Rattle.std.specs.Prelude.{◌==◌, ◌&&◌, Bool, Result, Ok, Err, IfSome, if◌then◌else◌, zero, suc}
use Rattle.snoop_trace.proofs.Common.{Extent, Heading, State, TextFault, append-nil, nat_tests, records_left}
use Rattle.snoop_trace.specs.{Progress.heading_asked, declared.protocol.Protocol.Protocol}
use Rattle.csv.specs.{Machine.next_record, Reading.{Reached, ReadRecord, default_config, reader_config, reader_state, records, source_of}}
use Rattle.csv.{specs.declared.reader.Reader.Reader, proofs.ReadFacts.{rows-end, rows-more}}
use Rattle.snoop_trace.specs.{Grammar.◌>>=◌, Heading.{heading_as, is_heading}, Text.{Gives, entries_from, entries_in}}
use Rattle.snoop_trace.proofs.CsvLemmas.{records-ended, records_step}
use Rattle.snoop_trace.specs.declared.fault.TextFault.TheVariants as fault

-- what a record says, by its number and its fields
abbrev Says : Type 0 → Type 0
Says A = ℕ → List (List ℕ) → Result A TextFault

-- a bind that is `Ok` had an `Ok`
pub bind_ok : {A B : Type 0} (r : Result A TextFault) (f : A → Result B TextFault) (y : B) → (r >>= f) ≡ Ok y → (x : A) × (r ≡ Ok x) × (f x ≡ Ok y)
bind_ok (Ok x) f y h = (x, refl, h)
bind_ok (Err e) f y h = cc

-- readings that go on
pub bind_assoc : {A B C : Type 0} (r : Result A TextFault) (f : A → Result B TextFault) (g : B → Result C TextFault) → ((r >>= f) >>= g) ≡ (r >>= λ x. f x >>= g)
bind_assoc (Ok x) f g = refl
bind_assoc (Err e) f g = refl

bind_ends : {A : Type 0} (r : Result A TextFault) → (r >>= λ x. Ok x) ≡ r
bind_ends (Ok x) = refl
bind_ends (Err e) = refl

bind_if : {A B : Type 0} (b : Bool) (r q : Result A TextFault) (f : A → Result B TextFault) → ((if b then r else q) >>= f) ≡ (if b then (r >>= f) else (q >>= f))
bind_if true r q f = refl
bind_if false r q f = refl

-- a fault that was said is answered
gives_fault : {A X : Type 0} (view : X → List A) (named : TextFault) (said : Result (List A) TextFault) → said ≡ Err named → Gives view (Err named) said
gives_fault view fault.Read said is = tt
gives_fault view fault.NoMemory said is = tt
gives_fault view named said is = is

-- what the records of a text say after n others: the first of all may be a heading
abbrev pub says_from : {A : Type 0} → Says A → Option Heading → ℕ → List (List (List ℕ)) → Result (List A) TextFault
says_from says heading zero rows = entries_in says heading rows
says_from says heading (suc n) rows = entries_from says (suc n + 1) rows

-- what one record says after n others: a heading no entry
abbrev pub says_next : {A : Type 0} → Says A → Option Heading → ℕ → List (List ℕ) → Result (List A) TextFault
says_next says (Some asked) n f =
    if (n + 1 == 1) && is_heading f then (heading_as asked (n + 1) f >>= λ heading. Ok []) else (says (n + 1) f >>= λ entry. Ok (entry ∷ []))
says_next says None n f = says (n + 1) f >>= λ entry. Ok (entry ∷ [])

-- a record that is no heading
pub no_heading : {A : Type 0} (says : Says A) (shape : Extent) (protocol : Option Protocol) (n : ℕ) (f : List (List ℕ))
    → ((asked : Protocol) → protocol ≡ Some asked → ((n + 1 == 1) && is_heading f) ≡ false)
    → says_next says (heading_asked protocol shape) n f ≡ (says (n + 1) f >>= λ entry. Ok (entry ∷ []))
no_heading says shape None n f other = refl
no_heading says shape (Some asked) n f other = rw (other asked refl) refl

-- one record, and then those that follow it
next_first : {A : Type 0} (says : Says A) (heading : Option Heading) (n : ℕ) (f : List (List ℕ)) (rows : List (List (List ℕ)))
    → says_from says heading n (f ∷ rows) ≡ (says_next says heading n f >>= λ before. says_from says heading (n + 1) rows >>= λ more. Ok (before ++ more))
unfolding entries_in entries_from
next_first says None zero f rows = simp bind_assoc
next_first says None (suc n) f rows = rw add-one (simp bind_assoc)
next_first says (Some asked) zero f rows = simp (bind_if, bind_assoc) (rw (bind_ends (entries_from says 2 rows)))
next_first says (Some asked) (suc n) f rows = let later : (suc (suc n) == 1) ≡ false = grind (arith, nat_tests) in rw (add-one, later) (simp bind_assoc)

-- after the last record
says_none : {A : Type 0} (says : Says A) (heading : Option Heading) (n : ℕ) → says_from says heading n [] ≡ Ok []
unfolding entries_in entries_from
says_none says None zero = refl
says_none says (Some asked) zero = refl
says_none says heading (suc n) = refl

-- what is said in all is what was said so far, and then what the records say that are left
pub record Split {A : Type 0} (says : Says A) (heading : Option Heading) (said : Result (List A) TextFault) (s : State) (left : Option (List ℕ))
    (entries : List A) (n : ℕ) : Type 0 where
  pub rest : List ℕ
  pub known : left ≡ Some rest
  pub same : said ≡ (says_from says heading n (records_left s rest) >>= λ more. Ok (entries ++ more))

-- a reader of a text stands after n records, which gave these entries
pub record SoFar {R A : Type 0} (rem : R → Option (List ℕ)) (says : Says A) (heading : Option Heading) (start r : Reader R)
    (entries : List A) (n : ℕ) : Type 0 where
  pub split : IfSome (source_of rem start) (λ xs.
      Split says heading (entries_in says heading (records default_config xs)) (reader_state r) (source_of rem r) entries n)

module _ {R : Type 0} (rem : R → Option (List ℕ)) (a b : Reader R) (f : List (List ℕ)) (config : reader_config a ≡ default_config) where
  -- a record that was read
  pub took : (xs : List ℕ) → ReadRecord rem a b true f → source_of rem a ≡ Some xs
      → (ys : List ℕ) × (next_record default_config (reader_state a) [] [] xs ≡ Some (f, reader_state b, ys)) × (source_of rem b ≡ Some ys)
  unfolding Reached
  took xs r e =
      let (z, at_z, reached) = rows-more rem a b f default_config (reader_state a) xs xs [] config e (refl, refl) r in
      let (p, next, is, at_end) = reached in
      let whole : (p.0, p.1, p.2) ≡ (f, reader_state b, z) = cc (is, at_end.0, at_end.1) in
      (z, next ∙ ap Some whole, at_z)

  module _ {A : Type 0} (says : Says A) (heading : Option Heading) (start : Reader R) (entries : List A) (n : ℕ)
      (far : SoFar rem says heading start a entries n) where
    pub done : ReadRecord rem a b false f → IfSome (source_of rem start) (λ xs. entries_in says heading (records default_config xs) ≡ Ok entries)
    done r = IfSome_then (source_of rem start) far.split (λ xs far.
        let none = rows-end rem a b f default_config far.rest config far.known r in
        far.same ∙ rw (records-ended default_config _ (reader_state a) far.rest none, says_none says heading n, append-nil) refl)

    -- a record, and then those that are left
    one_more : (xs ys : List ℕ) → next_record default_config (reader_state a) [] [] xs ≡ Some (f, reader_state b, ys)
        → says_from says heading n (records_left (reader_state a) xs)
        ≡ (says_next says heading n f >>= λ before. says_from says heading (n + 1) (records_left (reader_state b) ys) >>= λ more. Ok (before ++ more))
    one_more xs ys next =
        rw (records_step default_config (reader_state a) xs (f, reader_state b, ys) next) (next_first says heading n f (records_left (reader_state b) ys))

    pub further : ReadRecord rem a b true f → (before : List A) → says_next says heading n f ≡ Ok before
        → SoFar rem says heading start b (entries ++ before) (n + 1)
    further r before is = record {
      split = IfSome_then (source_of rem start) far.split (λ xs far.
          let (ys, next, known) = took far.rest r far.known in
          record {
            rest = ys;
            known = known;
            same = far.same ∙ rw (one_more far.rest ys next, is) (simp (bind_assoc, append_assoc));
          });
    }

    pub refused : ReadRecord rem a b true f → {X : Type 0} (view : X → List A) (answer : Result X TextFault) (named : TextFault)
        → answer ≡ Err named → says_next says heading n f ≡ Err named
        → IfSome (source_of rem start) (λ xs. Gives view answer (entries_in says heading (records default_config xs)))
    refused r view answer named gives is = IfSome_then (source_of rem start) far.split (λ xs far.
        let (ys, next, known) = took far.rest r far.known in
        rw gives (gives_fault view named _ (far.same ∙ rw (one_more far.rest ys next, is) refl)))
