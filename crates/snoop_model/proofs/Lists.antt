-- Plain facts of lists and Booleans; what a write in one place does to a list and to sums over it; and how often a block stands in a queue.
use Rattle.snoop_model.proofs.Common.{[], after_order, All, arith, Bool, CacheAction, cond, cond_both, Contains, count_by, count_by-le-length, eq-eqb, eqb, eqb_tells, false, filter, get_or, get_or-le-sum_by, get_or-replicate, get_or-set_other, get_or-set_same, get_or_from_slice_get, get_or_past, IfSome, if◌then◌else◌, inl, inr, length, length-filter, length-replicate, length_push, List, not, Option, queue_of, queues_after, refl, replicate, set_past, slice_get, slice_get_within, slice_index_or, slice_set, Some, suc, sum_by, sum_by-cons, sum_by-set, sum_by_push, zero-add, ℕ, ◌++◌, ◌+◌, ◌<◌, ◌==◌, ◌∷◌, ◌≡◌, ◌≢◌, ◌≤◌, ◌⊎◌}

-- each place of a list of equal values has that value, and so has any place past its end
pub replicated : {X : Type 0} (n i : ℕ) (x : X) → get_or (replicate n x) i x ≡ x
replicated n i x = grind (arith, get_or-replicate n i x x, get_or_past (replicate n x) i x, length-replicate n x)

-- 1 where it is so, else 0
abbrev pub one_if : Bool → ℕ
one_if b = if b then 1 else 0

-- a choice between equals
pub either_way : {A : Type 0} (t : Bool) (n : A) → n ≡ cond t n n
either_way t n = cond_both t n n (λ x. n ≡ x) (λ is. refl) (λ is. refl)

-- a function of a choice is a choice
pub of_choice : {A B : Type 0} (f : A → B) (t : Bool) (x y : A) → f (cond t x y) ≡ cond t (f x) (f y)
of_choice f t x y = grind arith

-- what holds of the value, if there is one
pub if_some : {A : Type 0} (o : Option A) (P : A → Type 0) → ((a : A) → o ≡ Some a → P a) → IfSome o P
if_some o P each = grind (arith, each)

-- what stands in a place after a write
pub set_cases : {A : Type 0} (xs : List A) (i k : ℕ) (a d : A) → ((k ≡ i) × (slice_index_or (slice_set xs i a) k d ≡ a)) ⊎ (slice_index_or (slice_set xs i a) k d ≡ slice_index_or xs k d)
set_cases xs i k a d = grind (arith, get_or-set_same xs i a d, get_or-set_other xs i k a d, set_past xs i a)

-- what holds of the new value in its place, and of each other, holds of each then
pub each_set : {A : Type 0} (xs : List A) (i : ℕ) (a d : A) (P : ℕ → A → Type 0) → i < length xs → P i a → ((k : ℕ) → k ≢ i → P k (slice_index_or xs k d)) → (k : ℕ) → P k (slice_index_or (slice_set xs i a) k d)
each_set xs i a d P inside here others k = grind (arith, get_or-set_same xs i a d, get_or-set_other xs i k a d, others k)

-- what holds of each value, and of the new one, holds of each then
pub each_still : {A : Type 0} (xs : List A) (i : ℕ) (a d : A) (P : ℕ → A → Type 0) → ((k : ℕ) → P k (slice_index_or xs k d)) → P i a → (k : ℕ)
    → P k (slice_index_or (slice_set xs i a) k d)
each_still xs i a d P all here k = elim (set_cases xs i k a d) [ inl p ↦ rw (p.1, p.0) here | inr e ↦ rw e (all k) ]

-- a write of an equal leaves all equal
pub same_set : {A B : Type 0} (f : A → B) (xs : List A) (i : ℕ) (a d : A) → f a ≡ f (slice_index_or xs i d) → (k : ℕ)
    → f (slice_index_or (slice_set xs i a) k d) ≡ f (slice_index_or xs k d)
same_set f xs i a d same = each_still xs i a d (λ k x. f x ≡ f (slice_index_or xs k d)) (λ k. refl) same

pub all_first : {A : Type 0} (P : A → Type 0) (xs : List A) (x : A) → All P xs → slice_get xs 0 ≡ Some x → P x
all_first P xs x all h = rw (get_or_from_slice_get xs 0 x x h) at (all 0 x (slice_get_within xs 0 x h))

-- a sum before and after a write, which past the end of the list does nothing
sum_set : {A : Type 0} (f : A → ℕ) (xs : List A) (i : ℕ) (a d : A) → f d ≡ 0 → sum_by f (slice_set xs i a) + f (slice_index_or xs i d) ≤ sum_by f xs + f a
sum_set f xs i a d none = grind (arith, sum_by-set f xs i a d, set_past xs i a, get_or_past xs i d)

-- an Ask puts at most one request more into the queues, and an Order takes one away
pub sum_asked : (act : CacheAction) (lines : List (List ℕ)) (core block : ℕ) → sum_by length (queues_after act lines core block) ≤ sum_by length lines + 1
sum_asked act lines core block =
    grind (arith, sum_set (λ (line : List ℕ). length line) lines core (queue_of lines core ++ block ∷ []) [] refl, length_push (queue_of lines core) block)

left_shorter : (line : List ℕ) (block : ℕ) → slice_get line 0 ≡ Some block → length (filter (λ b. not (b == block)) line) + 1 ≤ length line
left_shorter [] block h = cc
left_shorter (x ∷ xs) block h = grind (arith, h, length-filter (λ b. not (b == block)) xs, count_by-le-length (λ b. not (b == block)) xs)

pub sum_ordered : (lines : List (List ℕ)) (core block : ℕ) → slice_get (queue_of lines core) 0 ≡ Some block → sum_by length (after_order lines core block) + 1 ≤ sum_by length lines
sum_ordered lines core block first =
    let within : core < length lines = grind (arith, get_or_past, slice_get_within (queue_of lines core) 0 block first) in
    let left : List ℕ = filter (λ b. not (b == block)) (queue_of lines core) in
    omega (arith, sum_by-set (λ (l : List ℕ). length l) lines core left [] within, left_shorter (queue_of lines core) block first)

-- how many pass a test before and after a write
pub count_set : {A : Type 0} (test : A → Bool) (xs : List A) (i : ℕ) (a d : A) → test d ≡ false
    → count_by test (slice_set xs i a) + one_if (test (slice_index_or xs i d)) ≤ count_by test xs + one_if (test a)
count_set test xs i a d none = sum_set (λ x. one_if (test x)) xs i a d (rw none refl)

abbrev pub times : ℕ → List ℕ → ℕ
times block queue = count_by (λ b. eqb b block) queue

pub times_push : (block x : ℕ) (queue : List ℕ) → times block (queue ++ x ∷ []) ≡ times block queue + one_if (eqb x block)
times_push block x queue = sum_by_push (λ b. cond (eqb b block) 1 0) queue x

-- a block that is counted stands in the queue
pub counted_in : (block : ℕ) (queue : List ℕ) → 1 ≤ times block queue → Contains queue block
counted_in block [] some = absurd (omega arith)
counted_in block (x ∷ queue) some = elim (eqb_tells x block) [
  | inl same ↦ (0, omega arith, same.1)
  | inr other ↦
      let (k, below, is) = counted_in block queue (simp (other.0, zero-add) at some) in
      (suc k, omega arith, is)
]

pub in_counted : (block : ℕ) (queue : List ℕ) → Contains queue block → 1 ≤ times block queue
in_counted block queue (k, below, is) = rw (is, eq-eqb block block refl) at (get_or-le-sum_by (λ b. one_if (eqb b block)) queue k block below)

-- a block is taken out of a queue, and the others stay
pub times_left : (block taken : ℕ) (queue : List ℕ) → times block (filter (λ b. not (eqb b taken)) queue) ≡ (if block == taken then 0 else times block queue)
times_left block taken [] = either_way (eqb block taken) 0
times_left block taken (x ∷ queue) =
    let cons = sum_by-cons (λ b. cond (eqb b block) 1 0) x in
    let left = filter (λ b. not (eqb b taken)) queue in
    grind (arith, cons queue, cons left, eqb_tells x taken, eqb_tells x block, eqb_tells block taken, times_left block taken queue)
