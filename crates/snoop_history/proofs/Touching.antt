-- The blocks that a list mentions, with one item more.
use Rattle.std.proofs.Common.{sym, arith, ◌≡◌, ℕ, true, false, not, List, [], ◌∷◌, ◌++◌, refl, map, filter, eqb, append-nil, append_assoc}
use Rattle.std.{specs.Prelude.{Option, Some, None, option_to_list, ◌==◌, nat_eq}, proofs.lemmas.{List.Elements.filter-append, Map.Views.any-filter_same}}
use Rattle.snoop_history.proofs.Common.{Did, Item, eqb-true, flat_map, flat_map-append, insert_key, list_any}
use Rattle.snoop_history.{proofs.Common.operation_of, specs.Within.block_of}
use Rattle.snoop_history.specs.Totals.{each_once, mentioned, touched}

-- the numbers other than y
abbrev pub but : ℕ → List ℕ → List ℕ
but y xs = filter (λ z. not (z == y)) xs

-- another number is found among them as before
any-but : (x y : ℕ) (xs : List ℕ) → eqb x y ≡ false → list_any (nat_eq x) (but y xs) ≡ list_any (nat_eq x) xs
any-but x y xs other = any-filter_same (nat_eq x) (λ z. not (z == y)) true (λ z same. let e : x ≡ z = eqb-true x z same in rw (← e, other)) xs

-- one number more after a first one, which stands nowhere else
insert-cons : (x y : ℕ) (xs : List ℕ) → y ∷ but y (insert_key nat_eq xs x) ≡ insert_key nat_eq (y ∷ but y xs) x
insert-cons x y xs = grind (arith, any-but x y xs, filter-append (λ z. not (z == y)) xs (x ∷ []), append-nil (but y xs))

-- one number more stands last, where it is new
pub each_once-more : (xs : List ℕ) (x : ℕ) → each_once (xs ++ x ∷ []) ≡ insert_key nat_eq (each_once xs) x
each_once-more [] x = refl
each_once-more (y ∷ ys) x = rw (each_once-more ys x) (insert-cons x y (each_once ys))

-- the keys with the block of an operation, if there is one
abbrev pub with_operation : List ℕ → Option Did → List ℕ
with_operation keys None = keys
with_operation keys (Some did) = insert_key nat_eq keys did.block

-- each_once of a list with an item's blocks after it
each_once-blocks : (xs : List ℕ) (block : ℕ) (op : Option Did) →
    each_once (xs ++ (block ∷ map (λ did. did.block) (option_to_list op))) ≡ with_operation (insert_key nat_eq (each_once xs) block) op
each_once-blocks xs block None = each_once-more xs block
each_once-blocks xs block (Some did) =
    rw (← append_assoc xs (block ∷ []) (did.block ∷ []), each_once-more (xs ++ block ∷ []) did.block, each_once-more xs block)

-- the blocks that a list with one item more touches
pub touched-add : (items : List Item) (entry : Item) {before after : List ℕ} {block : ℕ} {op : Option Did} → before ≡ touched items → block ≡ block_of entry → op ≡ operation_of entry →
    after ≡ with_operation (insert_key nat_eq before block) op → after ≡ touched (items ++ entry ∷ [])
touched-add items entry was is performs added =
    rw (added, was, is, performs, flat_map-append mentioned items (entry ∷ []), append-nil (mentioned entry))
    (sym (each_once-blocks (flat_map mentioned items) (block_of entry) (operation_of entry)))
