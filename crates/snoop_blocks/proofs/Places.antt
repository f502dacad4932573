-- The places of a table: at first, and after one write.
use Rattle.std.proofs.Common.{◌≡◌, ◌≢◌, ◌<◌, ◌≤◌, ◌+◌, ◌-◌, ◌^◌, ℕ, zero, suc, List, [], ◌∷◌, ◌++◌, length, replicate, slice_get, slice_index_or, slice_set, Some, refl, sym, ◌∙◌, ap, arith, cond}
use Rattle.std.specs.Prelude.{◌==◌}
use Rattle.std.proofs.{lemmas.{Bool.{cases_eq, cases_lt}, Grind.{common_steps, elements}, Option.{slice_get-get_or, slice_get-map}}, Math.ListN.get_or-map}
use Rattle.std.proofs.lemmas.List.{ext_get_or, get_or_read, get_or_past, get_or_push, get_or_append_left, get_or-replicate, get_or-set_same, get_or-set_other, length-set, length-map, map-set, set-get_or, length-replicate, length_push, Sums.sum_by-set, Folds.sum_by-replicate}
use Rattle.snoop_blocks.specs.Places.{value_at, seen, changed_at, unwritten, ArePlaces}

-- at first each place is 0
pub zero_at : (n block : ℕ) → let none : ℕ = 0 in slice_index_or (replicate n none) block 0 ≡ 0
zero_at n block = grind (arith, common_steps, get_or-replicate, get_or_past, length-replicate, cases_lt block n)

-- and each block has the first value
pub seen-new : {X : Type 0} (first : X) (written : List X) (n : ℕ) → seen first written (replicate n 0) ≡ replicate n first
seen-new first written zero = refl
seen-new first written (suc n) = cc (seen-new first written n)

-- such places are in order
pub ArePlaces-new : {X : Type 0} (n : ℕ) (written : List X) (capacity : ℕ) → n < 2 ^ 32 → length written ≡ 0 → n ≤ capacity
    → ArePlaces (replicate n 0) written capacity
ArePlaces-new n written capacity few none room =
    let long = length-replicate {A = ℕ} n 0 in
    record {
      few = omega arith;
      within = λ block. omega (arith, zero_at n block);
      apart = λ one other ne same. zero_at n one;
      whole = omega (arith, sum_by-replicate (λ (place : ℕ). cond (place == 0) 1 0) n 0);
      room = omega arith;
    }

-- a block that was never written is one of them, and after its first write is none
fewer-unwritten : (places : List ℕ) (block place : ℕ) → block < length places → slice_index_or places block 0 ≡ 0
    → unwritten (slice_set places block (suc place)) + 1 ≡ unwritten places
fewer-unwritten places block place within none =
    grind (arith, none, sum_by-set (λ (last : ℕ). cond (last == 0) 1 0) places block (suc place) 0 within)

module _ {X : Type 0} (first : X) {written now : List X} {places : List ℕ} {capacity : ℕ}
    (all : ArePlaces places written capacity) (view : seen first written places ≡ now) (block : ℕ) where
  -- a block that is seen has a place, and what was read of it is there
  pub found : {place : ℕ} → block < length now → place ≡ slice_index_or places block place → (block < length places) × (slice_index_or places block 0 ≡ place)
  found {place} inside read =
      let there : block < length places = omega (arith, simp length-map at (ap length view)) in
      (there, sym (get_or_read places block place there read 0))

  -- where the other places have the values that they had, the value of the block alone is new in what is seen
  seen-changed : (after : List X) (place : ℕ) (value : X) → block < length places → value_at first after place ≡ value
      → ((k : ℕ) → k ≢ block → (n : ℕ) → slice_index_or places k 0 ≡ suc n → slice_index_or after n first ≡ slice_index_or written n first)
      → seen first after (slice_set places block place) ≡ slice_set now block value
  seen-changed after place value there here others =
      let f = value_at first written in
      let g = value_at first after in
      rw (map-set g places block place, here, ← view) (ext_get_or first _ _ (simp (length-set, length-map))
      (λ k h. grind (
        arith,
        elements,
        cases_eq k block,
        length-map places f,
        length-map places g,
        get_or-map f places k 0,
        get_or-map g places k 0,
        λ (ne : k ≢ block). same (slice_index_or places k 0) (others k ne),
      )))
    where
      same : (p : ℕ) → ((n : ℕ) → p ≡ suc n → slice_index_or after n first ≡ slice_index_or written n first) → value_at first after p ≡ value_at first written p
      same zero h = refl
      same (suc n) h = h n refl

  -- a block is written for the first time
  module _ (inside : block < length now) {place : ℕ} (read : place ≡ slice_index_or places block place) (unset : place ≡ 0) where
    free : (block < length places) × (slice_index_or places block 0 ≡ 0)
    free = let at = found inside read in (at.0, at.1 ∙ unset)

    -- there is room for its value
    pub some-room : (length written < capacity) × (length written + 1 < 2 ^ 32)
    some-room = let fewer = fewer-unwritten places block 0 free.0 free.1 in (omega arith, omega arith)

    -- its value is put last
    module _ (value : X) {after : List X} (pushed : after ≡ written ++ value ∷ []) {last : ℕ} (is_last : last ≡ length after) where
      at_last : last ≡ suc (length written)
      at_last = omega (arith, ap length pushed, length_push written value)

      pub ArePlaces-push : (more : ℕ) → capacity ≤ more → ArePlaces (slice_set places block last) after more
      ArePlaces-push more enough = record {
        few = omega (arith, length-set places block last);
        within = λ k. grind (arith, elements, free, at_last, all.within k);
        apart = λ one other ne same. grind (arith, elements, free, at_last, all.within one, all.within other, all.apart one other ne);
        whole =
            let same = ap (λ p. unwritten (slice_set places block p)) at_last in
            omega (arith, at_last, same, length-set places block last, fewer-unwritten places block (length written) free.0 free.1);
        room = omega (arith, length-set places block last);
      }

      pub seen-push : seen first after (slice_set places block last) ≡ slice_set now block value
      seen-push =
          seen-changed after last value free.0 (rw (at_last, pushed) (get_or_push written value first (length written) refl))
          (λ k ne n is. rw pushed (get_or_append_left written (value ∷ []) first n (omega (arith, all.within k))))

  -- a further write puts the value in the place of the last one
  module _ {place : ℕ} (at : slice_index_or places block 0 ≡ place) (some : place ≢ 0) where
    in-written : place - 1 < length written
    in-written = omega (arith, all.within block)

    there : block < length places
    there = grind (arith, get_or_past places block 0)

    is_suc : slice_index_or places block 0 ≡ suc (place - 1)
    is_suc = omega arith

    pub seen-set : (value : X) → seen first (slice_set written (place - 1) value) places ≡ slice_set now block value
    seen-set value =
        let after = slice_set written (place - 1) value in
        ap (seen first after) (sym (set-get_or places block 0))
        ∙ seen-changed after (slice_index_or places block 0) value there
        (ap (value_at first after) is_suc ∙ get_or-set_same written (place - 1) value first in-written)
        (λ k ne n is. get_or-set_other written (place - 1) n value first (grind (arith, all.apart k block ne)))

    -- so the value of the block may be changed
    pub seen-change : (next : X → X) (old new : X) → old ≡ slice_index_or written (place - 1) old → new ≡ next old
        → seen first (slice_set written (place - 1) new) places ≡ changed_at now block next
    seen-change next old new was is =
        let was_first = get_or_read written (place - 1) old in-written was first in
        let here : slice_get now block ≡ Some old =
        rw (← view, slice_get-map (value_at first written) places block, slice_get-get_or places block 0 there, is_suc, ← was_first) refl in
        seen-set new ∙ rw (here, is) refl
