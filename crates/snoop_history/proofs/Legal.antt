-- What a legal list and flat memory are after one more item.
use Rattle.std.proofs.Common.{arith, ◌≡◌, ℕ, zero, suc, List, [], ◌∷◌, ◌++◌, take, Some, ◌⊎◌, inl, inr, refl}
use Rattle.std.{specs.Prelude.{slice_get, IfSome}, proofs.lemmas.List.Elements.filter-append}
use Rattle.snoop_history.proofs.Common.{IsNext, IsNumbered, Item, Legal, flat, map-append, operation_of, stores}
use Rattle.snoop_history.{proofs.Pushed.{last_or-append, operations-push}, specs.{Within.IsItemWithin, Kept.IsKeptList}}

-- an element of a list with one more at its end: an earlier one, or the new one
slice_get-snoc : {A : Type 0} (items : List A) (entry : A) (k : ℕ) (x : A) → slice_get (items ++ entry ∷ []) k ≡ Some x →
    ((slice_get items k ≡ Some x) × (take k (items ++ entry ∷ []) ≡ take k items)) ⊎ ((x ≡ entry) × (take k (items ++ entry ∷ []) ≡ items))
slice_get-snoc [] entry zero x at = inr (cc, refl)
slice_get-snoc [] entry (suc k) x at = cc
slice_get-snoc (y ∷ ys) entry zero x at = inl (at, refl)
slice_get-snoc (y ∷ ys) entry (suc k) x at = grind (arith, slice_get-snoc ys entry k x at)

-- what holds of each item and those before it, of one item more and of fewer
each-grows : (P : List Item → Item → Type 0) (items : List Item) (entry : Item) → ((k : ℕ) (x : Item) → slice_get items k ≡ Some x → P (take k items) x) → P items entry
    → (k : ℕ) (x : Item) → slice_get (items ++ entry ∷ []) k ≡ Some x → P (take k (items ++ entry ∷ [])) x
each-grows P items entry each last k x at =
    elim (slice_get-snoc items entry k x at) [
      | inl p ↦ rw p.1 (each k x p.0)
      | inr p ↦ rw (p.1, p.0) last
    ]

-- a log's list with one item more
pub listed-push : (cores blocks words : ℕ) (items : List Item) (entry : Item) → IsKeptList cores blocks words items → IsItemWithin cores blocks words entry → IsNumbered items entry → IsKeptList cores blocks words (items ++ entry ∷ [])
listed-push cores blocks words items entry kept within numbered =
    record {
      within = each-grows (λ past x. IsItemWithin cores blocks words x) items entry kept.within within;
      in_order = each-grows IsNumbered items entry kept.in_order numbered;
    }

pub legal-grows : (items : List Item) (entry : Item) → Legal items → IfSome (operation_of entry) (IsNext items) → Legal (items ++ entry ∷ [])
legal-grows items entry legal next = each-grows (λ past x. IfSome (operation_of x) (IsNext past)) items entry legal next

-- an element of a list stands at the same place of a longer one, after the same elements
slice_get-front : {A : Type 0} (items rest : List A) (k : ℕ) (x : A) → slice_get items k ≡ Some x →
    (slice_get (items ++ rest) k ≡ Some x) × (take k (items ++ rest) ≡ take k items)
slice_get-front [] rest k x at = cc
slice_get-front (y ∷ ys) rest zero x at = (at, refl)
slice_get-front (y ∷ ys) rest (suc k) x at = grind (arith, slice_get-front ys rest k x at)

pub legal-begins : (items rest : List Item) → Legal (items ++ rest) → Legal items
legal-begins items rest legal k x at =
    let p = slice_get-front items rest k x at in rw (← p.1) (legal k x p.0)

pub flat-grows : (items : List Item) (entry : Item) (block word : ℕ) → flat (items ++ entry ∷ []) block word ≡ stores entry block word (flat items block word)
flat-grows items entry block word = rw (operations-push items entry) (simp (filter-append, map-append, last_or-append) (grind arith))

pub ruleset growth = (legal-grows, flat-grows)
