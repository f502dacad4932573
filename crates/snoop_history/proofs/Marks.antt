-- One more block among those that were mentioned.
use Rattle.std.proofs.Common.{◌≡◌, ℕ, zero, suc, ◌+◌, ◌<◌, Bool, true, false, List, [], ◌∷◌, ◌++◌, length, Some, refl, sym, ◌∙◌, ap, arith, get_or}
use Rattle.std.proofs.lemmas.{Grind.elements, Bool.Decides.nat_tests}
use Rattle.std.{specs.Prelude.{replicate, slice_get, slice_set, nat_eq}, proofs.{lemmas.List.{Elements.All-push, Folds.list_any-append}}}
use Rattle.snoop_history.proofs.Common.{Mentions, get_or-replicate, get_or-set_other, get_or-set_same, slice_get_read}
use Rattle.snoop_history.proofs.Common.{insert_key, length-append, length-replicate, length-set, list_any, slice_get-get_or}
use Rattle.snoop_history.specs.{declared.board.TouchedBlocks.TheInside.Inside, Marked.{set_marks, AreMarksOf, IsMarked, mentions}}
use Rattle.snoop_history.proofs.Pushed.{length-filter-le}

-- a mark that is set is one more
set-more : (marks : List Bool) (i : ℕ) → slice_get marks i ≡ Some false → set_marks (slice_set marks i true) ≡ set_marks marks + 1
set-more [] i at = cc
set-more (m ∷ ms) zero at = let e : m ≡ false = cc in rw e (omega arith)
set-more (m ∷ ms) (suc i) at = grind (arith, set-more ms i at)

-- a block that is not marked, and for which there is room
module _ (marks : List Bool) (order : List ℕ) (kept : AreMarksOf marks order) (block : ℕ) (within : block < length marks) (free : slice_get marks block ≡ Some false) where
  pub unmarked : list_any (nat_eq block) order ≡ false
  unmarked = let e = kept.marked block within in cc

  pub room-left : length order < length marks
  room-left = omega (arith, set-more marks block free, length-filter-le (λ (mark : Bool). mark) (slice_set marks block true), length-set marks block true, kept.counted)

  mark-at : (other : ℕ) → other < length (slice_set marks block true) → slice_get (slice_set marks block true) other ≡ Some (list_any (nat_eq other) (order ++ block ∷ []))
  mark-at other inside = grind (arith, elements, nat_tests, kept.marked other, list_any-append (nat_eq other) order (block ∷ []), get_or-set_same marks block true, get_or-set_other marks block other true, length-set marks block true)

  pub inserted : insert_key nat_eq order block ≡ order ++ block ∷ []
  inserted = rw unmarked

  pub marks-after : (order' : List ℕ) → order' ≡ insert_key nat_eq order block → AreMarksOf (slice_set marks block true) order'
  marks-after order' after =
      rw (after, inserted) (record {
        marked = mark-at;
        counted = length-append order (block ∷ []) ∙ (ap (λ n. n + 1) kept.counted ∙ sym (set-more marks block free));
        within = rw (length-set marks block true) (All-push (λ b. b < length marks) order block kept.within within);
      })

-- a block that is marked changes nothing
pub marked-before : (marks : List Bool) (order : List ℕ) (block : ℕ) → AreMarksOf marks order → block < length marks → slice_get marks block ≡ Some true → insert_key nat_eq order block ≡ order
marked-before marks order block kept within is = grind (arith, kept.marked block within)

-- no mark is set at first
none-set : (n : ℕ) → set_marks (replicate n false) ≡ 0
none-set zero = refl
none-set (suc n) = none-set n

pub marks-at_first : (n : ℕ) (marks : List Bool) (order : List ℕ) → marks ≡ replicate n false → order ≡ [] → AreMarksOf marks order
marks-at_first n marks order is none =
    rw (is, none) (record {
      marked = λ block within. slice_get-get_or (replicate n false) block false within ∙ ap Some (get_or-replicate n block false false (omega (arith, length-replicate n false)));
      counted = sym (none-set n);
      within = λ k d lt. absurd (omega arith);
    })

-- what callers see of a block is so inside
module _ (t : Inside) {seen : Mentions} (view_is : mentions t ≡ seen) {block : ℕ} (within : block < seen.blocks) where
  pub is_inside : block < length t.marks.items
  is_inside = omega (arith, within, ap (λ (m : Mentions). m.blocks) view_is)

  pub is_free : IsMarked t → list_any (nat_eq block) seen.order ≡ false → slice_get t.marks.items block ≡ Some false
  is_free kept free = kept.marks.marked block is_inside ∙ ap Some (ap (λ (m : Mentions). list_any (nat_eq block) m.order) view_is ∙ free)

  pub mark_read : (mark : Bool) → mark ≡ get_or t.marks.items block mark → slice_get t.marks.items block ≡ Some mark
  mark_read mark read = slice_get_read t.marks.items (length t.marks.items) block mark refl is_inside read
