-- What a count of items alone counts of a line: nothing; rows of counters, and how they go up.
use Rattle.std.{proofs.{Common.{get_or-set_other, subst}, lemmas.{Bool.{and_right, cases_Bool}, Grind.get_or-set_at}}, specs.Prelude.slice_get}
use Rattle.std.proofs.lemmas.{List.{length-set, set-get_or, Folds.fold_stays, Sums.{length-filter, sum_by_push}}, Option.{gets, slice_get-map, slice_get_within}}
use Rattle.snoop_history.specs.{Journal.counted, Totals.capped}
use Rattle.snoop_blocks.specs.Places.{changed_at}
use Rattle.snoop_engine.proofs.Common.{CacheEvent, CacheState, take_more}
use Rattle.snoop_counts.proofs.Common.{[], ℕ, ◌&&◌, ◌++◌, ◌+◌, ◌<◌, ◌==◌, ◌||◌, ◌∙◌, ◌∷◌, ◌≡◌, ap, append_assoc, arith, Bool, Cause, cond, Count, counter_in, counts, false, filter, fold, get_or, Happening, HasCounted, if◌then◌else◌, inl, inr, is_counted, length, List, map, nat_tests, Ok, Option, option_map_or, refl, Refused, Reply, Result, Some, Step, Subjects, sym, take, Taken, times_counted, true}
use Rattle.snoop_counts.specs.{BySteps.machine_counts, Counted.{counts_cause, counts_lines, counts_refusal, counts_row, has_row, is_it, is_refused, subject_of}}
use Rattle.snoop_counts.specs.{Tally.{number, own_raised, raised_all, raised_by, raised_if, raised_row, row_at, tried}, declared.tally.Counters.Counters}
use Rattle.snoop_counts.specs.declared.tally.Tally.{Tally}
use Rattle.snoop_counts.specs.declared.count.Count.TheVariants as count
use Rattle.snoop_counts.specs.declared.count.Happening.TheVariants as happening
use Rattle.snoop_counts.specs.declared.count.Subjects.TheVariants as subjects
use Rattle.snoop_history.specs.declared.items.Item.TheVariants as item

pub no_row : (line : Taken) → has_row (λ state event. false) line ≡ false
no_row line = grind arith

pub not_refused : (outcome : Result Reply Refused) → is_refused (λ cause. false) outcome ≡ false
not_refused outcome = grind arith

pub no_cause : (why : Option Cause) → option_map_or (λ (cause : Cause). false) why false ≡ false
no_cause why = grind arith

-- what a count counts of lines: all, by their rows, of refused steps, and by the causes of misses
abbrev OfLines : Type 0
OfLines = Bool × (CacheState → CacheEvent → Bool) × (Refused → Bool) × (Cause → Bool)

-- the count is of items alone
abbrev pub IsOfItems : Count → Type 0
IsOfItems c =
    ◌≡◌ {A = OfLines} (counts_lines c, counts_row c, counts_refusal c, counts_cause c) (false, (λ state event. false), (λ cause. false), (λ cause. false))

pub no_line : (c : Count) → IsOfItems c → (step : Step) (outcome : Result Reply Refused) (line : Taken) (why : Option Cause)
    → counts c (happening.Line step outcome line why) ≡ false
no_line c items step outcome line why =
    (λ i. (items i).0 || has_row (items i).1 line || is_refused (items i).2 outcome || option_map_or (items i).3 why false)
    ∙ (λ i. no_row line i || not_refused outcome i || no_cause why i)

-- all counts, by their places
abbrev all_counts : List Count
all_counts = machine_counts ++ count.Lines ∷ count.Operations ∷ []

-- each count stands at its place
at_place : (c : Count) → slice_get all_counts (number c) ≡ Some c
at_place count.Loads = refl
at_place c = refl

-- there are 31 places
pub place_below : (c : Count) → number c < 31
place_below c = slice_get_within all_counts (number c) c (at_place c)

-- what two give of an element is the same, where they give the same of a list that has it
same_at : {Y : Type 0} (f g : Count → Y) (all : List Count) (n : ℕ) (c : Count) → slice_get all n ≡ Some c → map f all ≡ map g all → f c ≡ g c
same_at f g all n c at same = grind (arith, slice_get-map f all n, slice_get-map g all n, at, same)

-- one counter, after a count has counted what has happened, where its row may be the one for whom it counts
abbrev up : Happening → Count → Bool → ℕ → Count → ℕ
up seen c here n a = counted n ((number a == number c) && (counts a seen && here))

-- a row keeps its length, and some counts have counted, where it is the one for whom they count
record Rises (seen : Happening) (here : Bool) (list : List Count) (old new : Counters) : Type 0 where
  pub long : length new.counters ≡ 31
  pub done : (c : Count) → counter_in new c ≡ fold (up seen c here) (counter_in old c) list

module _ (seen : Happening) where
  rises_if : (a : Count) (row : Counters) → length row.counters ≡ 31 → (on : Bool) → counts a seen ≡ on
      → Rises seen true (a ∷ []) row (if on then raised_row a row else row)
  rises_if a row long on is = let below = place_below a in record {
    long = grind (arith, length-set);
    done = λ c. grind (arith, nat_tests, is, get_or-set_at, get_or-set_other);
  }

  rises : (list : List Count) (row : Counters) → length row.counters ≡ 31 → (here : Bool) → Rises seen here list row (cond here (raised_all list seen row) row)
  rises [] row long true = record { long = long; done = λ c. refl }
  rises (a ∷ list) row long true =
      let one = rises_if a row long (counts a seen) refl in
      let rest = rises list (raised_if seen row a) one.long true in
      record { long = rest.long; done = λ c. rest.done c ∙ ap (λ (n : ℕ). fold (up seen c true) n list) (one.done c) }
  rises list row long false = record {
    long = long;
    done = λ c. sym (fold_stays (up seen c false) _ (λ a.
        ap (counted (counter_in row c)) (and_right (number a == number c) _ (and_right (counts a seen) false refl))) list);
  }

-- the rows, where the row of the subject that was found goes on
abbrev going : List Counters → Option ℕ → (Counters → Counters) → List Counters
going rows found next = option_map_or (λ subject. changed_at rows subject next) found rows

many_going : (rows : List Counters) (next : Counters → Counters) (found : Option ℕ) → length (going rows found next) ≡ length rows
many_going rows next found = grind (arith, gets, length-set)

row_going : (rows : List Counters) (next : Counters → Counters) (found : Option ℕ) (s : ℕ) → s < length rows
    → row_at (going rows found next) s ≡ cond (is_it found s) (next (row_at rows s)) (row_at rows s)
row_going rows next found s there = grind (arith, nat_tests, gets, get_or-set_at, get_or-set_other)

-- the counts of a list, and they alone, have counted what has happened, for the subject that was found
record Raises (seen : Happening) (found : Option ℕ) (list : List Count) (old new : List Counters) : Type 0 where
  pub many : length new ≡ length old
  pub each : (s : ℕ) → s < length old → length (row_at old s).counters ≡ 31 → Rises seen (is_it found s) list (row_at old s) (row_at new s)

raises_all : (seen : Happening) (found : Option ℕ) (list : List Count) (rows : List Counters)
    → Raises seen found list rows (going rows found (raised_all list seen))
raises_all seen found list rows = record {
  many = many_going rows (raised_all list seen) found;
  each = λ s there long. rw (row_going rows (raised_all list seen) found s there) (rises seen list (row_at rows s) long (is_it found s));
}

-- rows that go on as they are
same_going : (rows : List Counters) (found : Option ℕ) → going rows found (λ row. row) ≡ rows
same_going rows found = grind (arith, gets, set-get_or)

raises_one : (whose : Subjects) (a : Count) (seen : Happening) (rows : List Counters)
    → Raises seen (subject_of whose a seen) (a ∷ []) rows (raised_by whose a seen rows)
raises_one whose a seen rows =
    let found : Option ℕ = subject_of whose a seen in
    let same : going rows found (raised_all (a ∷ []) seen) ≡ raised_by whose a seen rows =
    elim (cases_Bool (counts a seen)) [ inl on ↦ rw on refl | inr off ↦ rw off (same_going rows found) ] in
    subst (Raises seen found (a ∷ []) rows) same (raises_all seen found (a ∷ []) rows)

-- the count of what the core does to others
abbrev pub done_to_others : Happening → Count
done_to_others (happening.Item entry) = count.Supplied
done_to_others (happening.Line step outcome line why) = count.Invalidates

-- the rows after something has happened
abbrev pub all_raised : Subjects → Happening → List Counters → List Counters
all_raised whose seen rows = raised_by whose (done_to_others seen) seen (own_raised whose seen rows)

-- so each count that counts it has counted it once, for whom it counts it
abbrev after_tried : Subjects → Happening → ℕ → ℕ → Count → ℕ
after_tried whose seen s n c =
    up seen c (is_it (subject_of whose (done_to_others seen) seen) s) (fold (up seen c (is_it (subject_of whose count.Lines seen) s)) n (tried seen)) (done_to_others seen)

all_tried : (seen : Happening) (whose : Subjects) (s n : ℕ)
    → map (after_tried whose seen s n) all_counts ≡ map (λ c. counted n (is_counted whose s c seen)) all_counts
all_tried (happening.Item (item.Came came (Some did))) subjects.Cores s n = refl
all_tried (happening.Item entry) subjects.Cores s n = refl
all_tried (happening.Item entry) whose s n = refl
all_tried (happening.Line step (Ok answer) line (Some cause)) subjects.Cores s n = simp (no_row line)
all_tried (happening.Line step outcome line why) subjects.Cores s n = simp (no_row line, no_cause why)
all_tried (happening.Line step outcome line why) whose s n = simp (no_row line, no_cause why)

-- one more happening
one_more : (p : Happening → Bool) (all : List Happening) (seen : Happening) → length (filter p (all ++ seen ∷ [])) ≡ length (filter p all) + cond (p seen) 1 0
one_more p all seen = rw (length-filter p (all ++ seen ∷ []), length-filter p all) (sum_by_push (λ h. cond (p h) 1 0) all seen)

counted_capped : (n : ℕ) (b : Bool) → counted (capped n) b ≡ capped (n + cond b 1 0)
counted_capped n b = grind arith

-- one more of these, after others
pub one_happening_more : (seen all : List Happening) (i : ℕ) (d : Happening) → i < length all → (seen ++ take i all) ++ get_or all i d ∷ [] ≡ seen ++ take (i + 1) all
one_happening_more seen all i d lt = append_assoc seen (take i all) (get_or all i d ∷ []) ∙ ap (λ (l : List Happening). seen ++ l) (sym (take_more all i d lt))

-- a tally that has counted has counted what happens next too
pub counted_more : (whose : Subjects) (many : ℕ) (all : List Happening) (seen : Happening) (old : Tally) → HasCounted whose many all old
    → HasCounted whose many (all ++ seen ∷ []) (record old { rows = all_raised old.subjects seen old.rows })
counted_more whose many all seen old before =
    let rows : List Counters = old.rows in
    let own = raises_all seen (subject_of old.subjects count.Lines seen) (tried seen) rows in
    let last = raises_one old.subjects (done_to_others seen) seen (own_raised old.subjects seen rows) in
    let same = last.many ∙ own.many in
    let first = λ (s : ℕ) (there : s < length rows). own.each s there (before.counted.long s there) in
    let both = λ (s : ℕ) (there : s < length rows). last.each s (omega (arith, there, own.many)) (first s there).long in
    record {
      subjects = before.subjects;
      rows = same ∙ before.rows;
      counted = record {
        long = λ s there. (both s (omega (arith, there, same))).long;
        counted = λ s c there.
            let there' : s < length rows = omega (arith, same) in
            let n : ℕ = counter_in (row_at rows s) c in
            (both s there').done c
            ∙ ap (λ (k : ℕ). up seen c (is_it (subject_of old.subjects (done_to_others seen) seen) s) k (done_to_others seen)) ((first s there').done c)
            ∙ same_at (after_tried old.subjects seen s n) (λ a. counted n (is_counted old.subjects s a seen)) all_counts (number c) c (at_place c) (all_tried seen old.subjects s n)
            ∙ (λ i. counted (before.counted.counted s c there' i) (is_counted (before.subjects i) s c seen))
            ∙ counted_capped (times_counted whose all s c) (is_counted whose s c seen) ∙ ap capped (sym (one_more (is_counted whose s c) all seen));
      };
    }
