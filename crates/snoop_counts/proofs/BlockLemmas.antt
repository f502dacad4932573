-- Tables: the text of some counters; of the table by block, that a list which falls, with those that tie in the order of another, is the other one ranked, and which blocks are shown.
use Rattle.std.proofs.lemmas.{Bool.{cases_lt, le-ltb, lt-ltb, ltb-false}, List.Elements.{All-filter, All-map, All-take, filter_agree, filter_passes}}
use Rattle.std.proofs.lemmas.List.{FromFn.{get_or-range_with_len, length-range_with_len}, Sums.prefix_len-le-length}
use Rattle.std.proofs.lemmas.List.Sorted.{All-permutation, IsPermutation-insert, IsStrictWeakOrder-by_number, IsStrictWeakOrder-flip}
use Rattle.std.specs.{Cmp.IsStrictWeakOrder, List.{position_or_len, Sorted.{IsSortedBy, IsStableBy, ties}}, Prelude.nat_lt}
use Rattle.snoop_engine.proofs.{Common.{All-cons, flat_map_more, map-append}, RangeLemmas.more_from_zero}
use Rattle.snoop_counts.proofs.Common.{[], ℕ, ◌++◌, ◌+◌, ◌<◌, ◌==◌, ◌∙◌, ◌∷◌, ◌≡◌, ◌≤◌, All, All-head, All-nil, All-tail, ap, append-nil, append_assoc, arith, Blocks, blocks_named, Bool, cond, Count, counter_in, eq-eqb, filter, filter-append, flat_map, fold, Happening, if◌then◌else◌, inl, inr, length, List, map, nat_tests, None, not, Option, range_with_len, refl, Some, suc, sym, true, with_requests}
use Rattle.snoop_counts.specs.{ByBlock.{blocks_shown, placed, ranked}, CoreTable.count_fields, Counted.is_named, declared.ranking.Ranked.Ranked}
use Rattle.snoop_counts.specs.declared.tally.Counters.{Counters}

-- the first goes before the second: it has more requests
abbrev pub goes_before : Ranked → Ranked → Bool
goes_before one other = nat_lt other.requests one.requests

pub order : IsStrictWeakOrder goes_before
order = IsStrictWeakOrder-flip (λ (x y : Ranked). nat_lt x.requests y.requests) (IsStrictWeakOrder-by_number (λ (r : Ranked). r.requests))

-- those that tie have as many requests
abbrev ties_with : Ranked → Ranked → Bool
ties_with one other = one.requests == other.requests

abbrev tied : Ranked → List Ranked → List Ranked
tied one = filter (ties_with one)

ties_are : (one : Ranked) (blocks : List Ranked) → filter (ties goes_before one) blocks ≡ tied one blocks
ties_are one = filter_agree (ties goes_before one) (ties_with one) (λ other. grind (arith, nat_tests))

-- no block has more requests than so many, nor than the one before it
abbrev Falls : ℕ → List Ranked → Type 0
Falls most [] = Unit {0}
Falls most (block ∷ blocks) = (block.requests ≤ most) × Falls block.requests blocks

falls_sorted : (block : Ranked) (blocks : List Ranked) → IsSortedBy goes_before (block ∷ blocks) → Falls block.requests blocks
falls_sorted block [] up = tt
falls_sorted block (next ∷ blocks) up =
    let later = λ (k : ℕ) (d : Ranked) (low : 0 ≤ k) (within : k + 1 < length (next ∷ blocks)).
    let same : suc k + 1 ≡ suc (k + 1) = omega arith in rw same at (up (suc k) d (omega arith) (omega arith)) in
    (ltb-false _ _ (up 0 block (omega arith) (omega arith)), falls_sorted next blocks later)

-- one of more requests ties with none
none_tied : (most : ℕ) (one : Ranked) (blocks : List Ranked) → Falls most blocks → most < one.requests → tied one blocks ≡ []
none_tied most one [] falls more = refl
none_tied most one (block ∷ blocks) falls more = grind (arith, nat_tests, falls.0, none_tied block.requests one blocks falls.1)

some_tied : (most : ℕ) (one : Ranked) (blocks rest : List Ranked) → Falls most blocks → tied one blocks ≡ one ∷ rest → one.requests ≤ most
some_tied most one blocks rest falls some = grind (arith, cases_lt most one.requests, none_tied most one blocks falls)

-- two lists that fall, in which those that tie with any one are the same, are the same
same_blocks : (m n : ℕ) (bs os : List Ranked) → Falls m bs → Falls n os → ((one : Ranked) → tied one bs ≡ tied one os) → bs ≡ os
same_blocks m n [] [] falls fall same = refl
same_blocks m n [] (o ∷ os) falls fall same = let none = rw (eq-eqb o.requests o.requests refl) at (same o) in cc
same_blocks m n (b ∷ bs) [] falls fall same = let none = rw (eq-eqb b.requests b.requests refl) at (same b) in cc
same_blocks m n (b ∷ bs) (o ∷ os) falls fall same =
    let up = some_tied o.requests b os (tied b bs) fall.1 in
    let down = some_tied b.requests o bs (tied o os) falls.1 in
    let head : o ≡ b = grind (arith, nat_tests, same b, same o, up, down) in
    let rest : (one : Ranked) → tied one bs ≡ tied one os = λ one. let e = rw head at (same one) in grind arith in
    rw head (ap (λ (l : List Ranked). b ∷ l) (same_blocks b.requests o.requests bs os falls.1 fall.1 rest))

module _ (next : Ranked) where
  -- a block is put before the first of a list, or further on
  placed_on : (b : Ranked) (bs : List Ranked) → placed (b ∷ bs) next ≡ cond (goes_before next b) (next ∷ b ∷ bs) (b ∷ placed bs next)
  placed_on b bs =
      let within = prefix_len-le-length (λ x. not (goes_before next x)) bs in
      let up : 1 + position_or_len (goes_before next) bs ≡ suc (position_or_len (goes_before next) bs) = omega arith in
      grind (arith, nat_tests)

  -- the list still falls, and those that tie with any one stand as if the block came last
  placed_so : (most : ℕ) (blocks : List Ranked) → next.requests ≤ most → Falls most blocks
      → Falls most (placed blocks next) × ((one : Ranked) → tied one (placed blocks next) ≡ tied one (blocks ++ next ∷ []))
  placed_so most [] few falls = ((few, tt), λ one. refl)
  placed_so most (b ∷ bs) few falls = rw placed_on (elim (cases_lt b.requests next.requests) [
    | inl less ↦
        let none = λ (one : Ranked). none_tied b.requests one bs falls.1 in
        rw (lt-ltb b.requests next.requests less)
        ((few, (omega arith, falls.1)), λ one. grind (arith, nat_tests, none one, append-nil, filter-append (ties_with one) bs (next ∷ [])))
    | inr more ↦
        let on = placed_so b.requests bs more falls.1 in
        rw (le-ltb b.requests next.requests more) ((falls.0, on.0), λ one. ap (λ (l : List Ranked). cond (ties_with one b) (b ∷ l) l) (on.1 one))
  ])

falls_below : (most : ℕ) (blocks : List Ranked) → Falls most blocks → (more : ℕ) → most ≤ more → Falls more blocks
falls_below most [] falls more le = tt
falls_below most (b ∷ bs) falls more le = (omega arith, falls.1)

ranked_so : (most : ℕ) (far blocks : List Ranked) → Falls most far
    → (m : ℕ) × Falls m (fold placed far blocks) × ((one : Ranked) → tied one (fold placed far blocks) ≡ tied one (far ++ blocks))
ranked_so most far [] falls = (most, falls, λ one. ap (tied one) (sym (append-nil far)))
ranked_so most far (b ∷ bs) falls =
    let more = placed_so b (most + b.requests) far (omega arith) (falls_below most far falls (most + b.requests) (omega arith)) in
    let rest = ranked_so (most + b.requests) (placed far b) bs more.0 in
    let split = λ (one : Ranked) (l : List Ranked). filter-append (ties_with one) l bs in
    (rest.0, rest.1, λ one. rest.2 one ∙ split one (placed far b) ∙ rw (more.1 one, ← split one (far ++ b ∷ []), append_assoc) refl)

-- a stable sort by rising `goes_before` ranks
pub sorted_is_ranked : (blocks sorted : List Ranked) → IsSortedBy goes_before sorted → IsStableBy goes_before blocks sorted → sorted ≡ ranked blocks
sorted_is_ranked blocks sorted up stable =
    let ranks = ranked_so 0 [] blocks tt in
    let falls = falls_all sorted up in
    same_blocks falls.0 ranks.0 sorted (ranked blocks) falls.1 ranks.1 (λ one. sym (ties_are one sorted) ∙ stable one ∙ ties_are one blocks ∙ sym (ranks.2 one))
  where
    falls_all : (list : List Ranked) → IsSortedBy goes_before list → (m : ℕ) × Falls m list
    falls_all [] up = (0, tt)
    falls_all (b ∷ bs) up = (b.requests, (omega arith, falls_sorted b bs up))

-- the text of some counters
pub fields_are : (row : Counters) (value : Count → ℕ) → ((c : Count) → counter_in row c ≡ value c) → (counts : List Count)
    → count_fields counts (counter_in row) ≡ count_fields counts value
fields_are row value same counts = λ i. count_fields counts (λ c. same c i)

-- one block more, if it is named
pub named_more : (seen : List Happening) (n : ℕ) → map (with_requests seen) (blocks_named (n + 1) seen)
    ≡ map (with_requests seen) (blocks_named n seen) ++ (if is_named Blocks seen n then with_requests seen n ∷ [] else [])
named_more seen n = rw (more_from_zero n, filter-append (is_named Blocks seen), map-append) (grind arith)

module _ (P : Ranked → Type 0) where
  all_placed : (blocks : List Ranked) (next : Ranked) → All P blocks → P next → All P (placed blocks next)
  all_placed blocks next all one = All-permutation P (next ∷ blocks) (placed blocks next) (IsPermutation-insert blocks _ next) (All-cons P next blocks one all)

  all_ranked : (blocks so_far : List Ranked) → All P blocks → All P so_far → All P (fold placed so_far blocks)
  all_ranked [] so_far all far = far
  all_ranked (b ∷ bs) so_far all far = all_ranked bs (placed so_far b) (All-tail P b bs all) (all_placed so_far b far (All-head P b bs all))

  all_shown : (top : Option ℕ) (named : List Ranked) → All P named → All P (blocks_shown top named)
  all_shown None named all = all
  all_shown (Some most) named all = All-take P most (ranked named) (all_ranked named [] all (All-nil P))

-- the blocks that the table has are blocks, and named
pub shown_are_named : (seen : List Happening) (blocks : ℕ) (top : Option ℕ)
    → All (λ (shown : Ranked). (shown.block < blocks) × (is_named Blocks seen shown.block ≡ true)) (blocks_shown top (map (with_requests seen) (blocks_named blocks seen)))
shown_are_named seen blocks top =
    let P : Ranked → Type 0 = λ shown. (shown.block < blocks) × (is_named Blocks seen shown.block ≡ true) in
    let p : ℕ → Bool = is_named Blocks seen in
    let low = All-filter p (λ k. k < blocks) (range_with_len 0 blocks) (λ k d low.
    let inside : k < blocks = omega (arith, length-range_with_len 0 blocks) in rw (get_or-range_with_len 0 blocks k d inside) (omega arith)) in
    all_shown P top (map (with_requests seen) (blocks_named blocks seen))
    (All-map P (with_requests seen) (blocks_named blocks seen) (λ k d there. (low k d there, filter_passes p (range_with_len 0 blocks) k d there)))

-- the piece of the next number comes after the pieces so far
pub pieces_more : (f : ℕ → List ℕ) (before : List ℕ) (n : ℕ) → before ++ flat_map f (range_with_len 0 (n + 1)) ≡ (before ++ flat_map f (range_with_len 0 n)) ++ f n
pieces_more f before n = rw (more_from_zero n) (sym (flat_map_more f before (range_with_len 0 n) n))
