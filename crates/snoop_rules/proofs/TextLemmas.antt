-- A text that grows piece by piece, over a list.
use Rattle.std.{proofs.Common.{◌≡◌, ℕ, ◌+◌, ◌<◌, ◌≤◌, Bool, List, ◌++◌, length, take, get_or, cond, arith}, specs.List.{filter, flat_map}}
use Rattle.std.proofs.lemmas.{List.{append-nil, append_assoc, take_all, take_more, Elements.filter_more}, Grind.flat_map-append}

-- the piece of the next element comes after the pieces so far
pub piece_more : {X : Type 0} (f : X → List ℕ) (xs : List X) (i : ℕ) (d : X) (before now next : List ℕ) → i < length xs
    → now ≡ before ++ flat_map f (take i xs) → next ≡ now ++ f (get_or xs i d) → next ≡ before ++ flat_map f (take (i + 1) xs)
piece_more f xs i d before now next h far e = grind (arith, take_more xs i d h, flat_map-append, append_assoc, append-nil)

-- at the end of the list
pub pieces_all : {X : Type 0} (f : X → List ℕ) (xs : List X) (i : ℕ) (before now : List ℕ) → length xs ≤ i
    → now ≡ before ++ flat_map f (take i xs) → now ≡ before ++ flat_map f xs
pieces_all f xs i before now h far = rw take_all at far

-- of those that pass a test: the next element's piece comes if it passes
pub kept_more : {X : Type 0} (p : X → Bool) (f : X → List ℕ) (xs : List X) (i : ℕ) (d : X) (b : Bool) (before now next : List ℕ) → i < length xs
    → now ≡ before ++ flat_map f (filter p (take i xs)) → b ≡ p (get_or xs i d) → next ≡ cond b (now ++ f (get_or xs i d)) now
    → next ≡ before ++ flat_map f (filter p (take (i + 1) xs))
kept_more p f xs i d b before now next h far test e = grind (arith, filter_more p xs i d h, flat_map-append, append_assoc, append-nil)
