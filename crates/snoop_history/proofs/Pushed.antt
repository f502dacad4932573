-- One more item: the operations, counts, flat values and totals of the longer list.
use Rattle.std.proofs.Common.{◌≡◌, ℕ, ◌^◌, ◌<◌, ◌≤◌, Bool, List, [], ◌∷◌, ◌++◌, length, Option, Some, None, refl, ◌∙◌, ap, arith, map, filter}
use Rattle.std.{specs.Prelude.{option_to_list, ◌==◌}, proofs.lemmas.List.Elements.{filter-append, filter_map-append}}
use Rattle.snoop_history.proofs.Common.{Did, Item, answers_of, counted, last_of, last_or, length-append, map-append, next_number, operation_of}
use Rattle.snoop_history.proofs.Common.{operations, tallied}
use Rattle.std.proofs.lemmas.List.Sums.{length-filter, count_by-le-length}
use Rattle.snoop_history.specs.Totals.{how_many, counts_by, totals_of, capped, capped_totals}

pub operations-one : (entry : Item) → operations (entry ∷ []) ≡ option_to_list (operation_of entry)
operations-one entry = grind arith

pub operations-push : (items : List Item) (entry : Item) → operations (items ++ entry ∷ []) ≡ operations items ++ option_to_list (operation_of entry)
operations-push items entry = filter_map-append operation_of items (entry ∷ []) ∙ ap (λ l. operations items ++ l) (operations-one entry)

-- the operation of one core, if it is its
abbrev pub of_core : ℕ → Option Did → List Did
of_core core op = filter (λ did. did.core == core) (option_to_list op)

pub answers_of-push : (items : List Item) (entry : Item) (core : ℕ) → answers_of (items ++ entry ∷ []) core ≡ answers_of items core ++ of_core core (operation_of entry)
answers_of-push items entry core =
    ap (filter (λ did. did.core == core)) (operations-push items entry) ∙ filter-append (λ did. did.core == core) (operations items) (option_to_list (operation_of entry))

pub last_or-append : {A : Type 0} (value : A) (xs ys : List A) → last_or value (xs ++ ys) ≡ last_or (last_or value xs) ys
last_or-append value [] ys = refl
last_or-append value (x ∷ xs) ys = last_or-append x xs ys

pub last_of-push : (items : List Item) (entry : Item) (core : ℕ) → last_of (items ++ entry ∷ []) core ≡ last_or (last_of items core) (map Some (of_core core (operation_of entry)))
last_of-push items entry core =
    rw (answers_of-push items entry core, map-append Some (answers_of items core) (of_core core (operation_of entry))) (last_or-append None (map Some (answers_of items core)) (map Some (of_core core (operation_of entry))))

-- a capped count of a list with one more item
how_many-capped : (test : Item → Bool) (items : List Item) (entry : Item) → counted (capped (how_many test items)) (test entry) ≡ capped (how_many test (items ++ entry ∷ []))
how_many-capped test items entry =
    rw (filter-append test items (entry ∷ []), length-append (filter test items) (filter test (entry ∷ []))) (grind arith)

pub capped_totals-push : (items : List Item) (entry : Item) → tallied (capped_totals (totals_of items)) entry ≡ capped_totals (totals_of (items ++ entry ∷ []))
capped_totals-push items entry = λ i. counts_by (λ test. how_many-capped test items entry i)

pub length-filter-le : {A : Type 0} (test : A → Bool) (items : List A) → length (filter test items) ≤ length items
length-filter-le test items = omega (arith, length-filter test items, count_by-le-length test items)

length-operations : (items : List Item) → length (operations items) ≤ length items
length-operations [] = omega arith
length-operations (x ∷ xs) = grind (arith, length-operations xs)

pub next_number_le : (items : List Item) (core : ℕ) → next_number items core ≤ length items
next_number_le items core = omega (arith, length-filter-le (λ did. did.core == core) (operations items), length-operations items)

-- a count below the largest u64 is not capped
pub capped-few : (n : ℕ) → n < 2 ^ 64 → capped n ≡ n
capped-few n few = omega arith

pub totals-few : (items : List Item) → length items < 2 ^ 64 → capped_totals (totals_of items) ≡ totals_of items
totals-few items few = λ i. counts_by (λ test. capped-few (how_many test items) (omega (arith, length-filter-le test items)) i)

-- what is none of its values is none
pub none_from_not_some : {A : Type 0} (found : Option A) → ((a : A) → found ≡ Some a → ⊥) → found ≡ None
none_from_not_some None h = refl
none_from_not_some (Some a) h = absurd (h a refl)
