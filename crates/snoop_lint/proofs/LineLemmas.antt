-- The lines on which the records of a text begin: how they follow one another byte by byte, and that each record has one.
use Rattle.std.proofs.Common.{◌≡◌, ℕ, ◌+◌, ◌<◌, ◌≤◌, ◌++◌, List, [], ◌∷◌, length, length-append, append-nil}
use Rattle.std.proofs.Common.{append_assoc, true, false, refl, arith, add-one, drop, get_or, inl, inr}
use Rattle.std.specs.Prelude.{zero, suc, Bool, slice_get, if◌then◌else◌}
use Rattle.std.proofs.lemmas.{Bool.cases_Bool, Grind.common_steps, Option.gets, List.{at_drop_all, at_drop_more}}
use Rattle.csv.specs.{Machine.{ends_at_end, field_after, fields_after, is_end, next_record, step}, declared.parser.State.State}
use Rattle.csv.specs.Reading.{default_config, records_from, records_next, strip_bom}
use Rattle.csv.specs.declared.parser.State.TheVariants as st
use Rattle.snoop_trace.specs.Text.{records_of}
use Rattle.snoop_lint.specs.Lines.{begins_record, ends_line, lines_from, record_lines}

-- one byte more
pub lines_more : (s : State) (line : ℕ) (text : List ℕ) (i : ℕ) → i < length text
    → lines_from s line (drop i text)
    ≡ (if begins_record s (get_or text i 0) then line ∷ [] else [])
    ++ lines_from (step default_config s (get_or text i 0)).0 (if ends_line (get_or text i 0) (slice_get text (i + 1)) then line + 1 else line) (drop (i + 1) text)
unfolding lines_from
lines_more s line text i h = grind (arith, common_steps, gets, at_drop_more (lines_from s line) text i 0 h)

-- all was read
pub lines_none : (s : State) (line : ℕ) (text : List ℕ) (i : ℕ) → length text ≤ i → lines_from s line (drop i text) ≡ []
unfolding lines_from
lines_none s line text i h = at_drop_all (lines_from s line) text i h

pub ruleset reading = (lines_more, lines_none, append_assoc, append-nil)

-- no state of a comment
abbrev plain : State → Bool
plain st.InComment = false
plain s = true

-- how many records are begun
abbrev begun : State → ℕ
begun s = if ends_at_end s then 1 else 0

-- a byte ends the record that is begun, or else a record is begun after it where one was, or where the byte begins one
record Follows (s : State) (line c : ℕ) : Type 0 where
  pub plain : plain (step default_config s c).0 ≡ true
  pub ends : is_end (step default_config s c).1 ≡ true → (begun s ≡ 1) × (begins_record s c ≡ false) × (begun (step default_config s c).0 ≡ 0)
  pub goes : is_end (step default_config s c).1 ≡ false
      → begun s + length (if begins_record s c then line ∷ [] else []) ≡ begun (step default_config s c).0

follows : (s : State) (line c : ℕ) → plain s ≡ true → Follows s line c
follows s line c h = record { plain = grind arith; ends = λ e. grind arith; goes = λ e. grind arith }

-- the bytes that are left have a line for each of the records that they begin; those that end there are one more where one is begun
same : (m : ℕ) (s : State) (line : ℕ) (fields : List (List ℕ)) (field : List ℕ) (xs : List ℕ) → plain s ≡ true → length xs ≤ m
    → length (lines_from s line xs) + begun s ≡ length (records_next (records_from default_config m) (next_record default_config s fields field xs))
unfolding next_record lines_from records_from
same zero s line fields field [] h small = elim (cases_Bool (ends_at_end s)) [ inl e ↦ rw e refl | inr e ↦ rw e refl ]
same (suc m) s line fields field [] h small = elim (cases_Bool (ends_at_end s)) [ inl e ↦ rw e refl | inr e ↦ rw e refl ]
same zero s line fields field (c ∷ rest) h small = absurd (omega arith)
same (suc m) s line fields field (c ∷ rest) h small =
    let (next, action) = step default_config s c in
    let later : ℕ = if ends_line c (slice_get rest 0) then line + 1 else line in
    let on = follows s line c h in
    elim (cases_Bool (is_end action)) [
      | inl e ↦ let (one, begins, none) = on.ends e in rw (e, begins) (omega (arith, one, none, same m next later [] [] rest on.plain (omega arith)))
      | inr e ↦
          let more = same (suc m) next later (fields_after action fields field) (field_after action c field) rest on.plain (omega arith) in
          rw e (omega (arith, on.goes e, more, length-append {A = ℕ}))
    ]

-- a text has as many of these lines as records
pub as_many_lines : (bytes : List ℕ) → length (record_lines bytes) ≡ length (records_of bytes)
unfolding records_from
as_many_lines bytes = rw add-one (omega (arith, same (length (strip_bom bytes)) st.StartRecord 1 [] [] (strip_bom bytes) refl (omega arith)))
