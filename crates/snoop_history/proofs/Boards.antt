-- The board of a list with one item more.
use Rattle.std.proofs.Common.{◌≡◌, ◌≢◌, ℕ, zero, suc, ◌+◌, ◌*◌, ◌<◌, Bool, true, false, ◌&&◌, List, [], ◌∷◌, ◌++◌, length, Option, Some, None, refl, sym, ◌∙◌, ap, arith, map, filter, fold, cond, append_assoc, zero-add}
use Rattle.std.specs.Prelude.{All, ◌/◌, ◌%◌, replicate, option_to_list, slice_index, slice_set, slice_get, ◌==◌, nat_lt, if◌then◌else◌, option_and_then}
use Rattle.snoop_history.proofs.Common.{Did, ForSome, Item, Totals, and_parts, append-nil, counted, eq-eqb, eqb-true}
use Rattle.snoop_history.proofs.Common.{false_from_ne_true, get_or-set_other, get_or-set_same, is_store_to, last_or, length-append}
use Rattle.snoop_history.proofs.Common.{length-set, map-append, nat_tests, ne_eqb, operation_of, operations}
use Rattle.snoop_history.{proofs.Common.{common_steps, range_with_len, slice_get-get_or, slice_get_past, tallied}, specs.Totals.{totals_of, capped, capped_totals}}
use Rattle.std.proofs.{Math.Nat.{div-add-mod, mul_comm}, lemmas.Nat.{div-mul-add, mod-mul-add, mul-le}}
use Rattle.std.proofs.lemmas.List.FromFn.{fill_by_all, length-map-range_with_len, get_or-map-range_with_len}
use Rattle.std.proofs.lemmas.List.Elements.{filter-append, filter_map-append, All-head, All-tail}
use Rattle.snoop_trace.specs.Words.{place_of}
use Rattle.snoop_history.specs.Within.{IsItemWithin, is_within, inside}
use Rattle.snoop_history.specs.Board.{Tables, for_each_below, board_of, operation_within, noted, absorbed}
use Rattle.snoop_history.proofs.Pushed.{operations-one, capped_totals-push, last_or-append}

-- a table in which one entry is set
set-below : {A : Type 0} (f g : ℕ → A) (n i : ℕ) (v : A) → i < n → g i ≡ v → ((j : ℕ) → j ≢ i → g j ≡ f j) → slice_set (for_each_below n f) i v ≡ for_each_below n g
set-below f g n i v within here others =
    let old = for_each_below n f in
    fill_by_all g (slice_set old i v) n v (length-set old i v ∙ length-map-range_with_len f 0 n)
    (λ k lt. grind (arith, get_or-set_same old i v v, get_or-set_other old i k v v, get_or-map-range_with_len f 0 n k k v lt, others k, length-map-range_with_len f 0 n))

-- the entry of a number below n
pub get-below : {A : Type 0} (f : ℕ → A) (n k : ℕ) → slice_get (for_each_below n f) k ≡ (if nat_lt k n then Some (f k) else None)
get-below f n k =
    grind (arith, nat_tests, length-map-range_with_len f 0 n, slice_get-get_or (for_each_below n f) k (f k), get_or-map-range_with_len f 0 n k k (f k), slice_get_past (for_each_below n f) k)

-- and of a table of what there may be
pub may-below : {A : Type 0} (f : ℕ → Option A) (n k : ℕ) → option_and_then (λ (o : Option A). o) (slice_get (for_each_below n f) k) ≡ (if nat_lt k n then f k else None)
may-below f n k = rw (get-below f n k) (grind arith)

-- a table of one value
pub table-of : {A : Type 0} (f : ℕ → A) (x : A) (a n : ℕ) → ((j : ℕ) → f j ≡ x) → replicate n x ≡ map f (range_with_len a n)
table-of f x a zero same = refl
table-of f x a (suc n) same = rw (same a, table-of f x (a + 1) n same)

-- a word's place is one of the places
pub place-within : (blocks words block word : ℕ) → block < blocks → word < words → place_of words block word < blocks * words
place-within blocks words block word b w =
    let whole = mul-le (block + 1) words blocks words (omega arith) (omega arith) in
    omega arith

-- what stands at a word's place
pub value-read : (f : ℕ → ℕ → ℕ) (blocks words block word : ℕ) →
    (if nat_lt block blocks && nat_lt word words then Some (slice_index (for_each_below (blocks * words) (λ place. f (place / words) (place % words))) (place_of words block word)) else None)
    ≡ (if nat_lt block blocks && nat_lt word words then Some (f block word) else None)
value-read f blocks words block word =
    let place = place_of words block word in
    grind (arith, nat_tests, get_or-map-range_with_len (λ p. f (p / words) (p % words)) 0 (blocks * words) place place 0, place-within blocks words block word, div-mul-add block words word, mod-mul-add block words word)

-- the operations within a shape, of a list with one item more
operations-inside-push : (cores blocks words : ℕ) (items : List Item) (entry : Item) →
    operations (inside cores blocks words (items ++ entry ∷ [])) ≡ operations (inside cores blocks words items) ++ option_to_list (operation_within cores blocks words entry)
operations-inside-push cores blocks words items entry =
    rw (filter-append (is_within cores blocks words) items (entry ∷ []), filter_map-append operation_of (inside cores blocks words items) (filter (is_within cores blocks words) (entry ∷ []))) (grind (arith, operations-one entry))

-- the tables of a list of operations: values by place, counts and last operations by core
abbrev pub value_at : ℕ → List Did → ℕ → ℕ
value_at words dids place = last_or 0 (map (λ did. did.value) (filter (is_store_to (place / words) (place % words)) dids))

abbrev pub count_in : List Did → ℕ → ℕ
count_in dids core = capped (length (filter (λ did. did.core == core) dids))

abbrev pub last_in : List Did → ℕ → Option Did
last_in dids core = last_or None (map Some (filter (λ did. did.core == core) dids))

abbrev pub board_with : ℕ → ℕ → ℕ → List Did → Totals → Tables
board_with cores blocks words dids totals =
    record { blocks = blocks; words = words; values = for_each_below (blocks * words) (value_at words dids); counts = for_each_below cores (count_in dids); lasts = for_each_below cores (last_in dids); totals = totals }

pub same_tables : (s t : Tables) → s.blocks ≡ t.blocks → s.words ≡ t.words → s.values ≡ t.values → s.counts ≡ t.counts → s.lasts ≡ t.lasts → s.totals ≡ t.totals → s ≡ t
same_tables s t b w v c l o = λ i. record { blocks = b i; words = w i; values = v i; counts = c i; lasts = l i; totals = o i }

-- the tables with one operation more
module _ (dids : List Did) (did : Did) where
  filter-one : (test : Did → Bool) (b : Bool) → test did ≡ b → filter test (dids ++ did ∷ []) ≡ filter test dids ++ cond b (did ∷ []) []
  filter-one test b e = rw (filter-append test dids (did ∷ []), e)

  filter-none : (test : Did → Bool) → test did ≡ false → filter test (dids ++ did ∷ []) ≡ filter test dids
  filter-none test e = filter-one test false e ∙ append-nil (filter test dids)

  count-own : count_in (dids ++ did ∷ []) did.core ≡ counted (count_in dids did.core) true
  count-own = rw (filter-one (λ d. d.core == did.core) true (eq-eqb did.core did.core refl)) (omega (arith, length-append (filter (λ d. d.core == did.core) dids) (did ∷ [])))

  last-stored : {A : Type 0} (value : A) (f : Did → A) (test : Did → Bool) → test did ≡ true → last_or value (map f (filter test (dids ++ did ∷ []))) ≡ f did
  last-stored value f test e = rw (filter-one test true e, map-append f (filter test dids) (did ∷ []), last_or-append value (map f (filter test dids)) (f did ∷ []))

  -- at another place stands another word
  elsewhere : (words place : ℕ) → place ≢ place_of words did.block did.word → (did.block == (place / words) && did.word == (place % words)) ≡ false
  elsewhere words place other = false_from_ne_true _ (λ e.
      let (b, w) = and_parts _ _ e in
      other (rw (eqb-true did.block (place / words) b, eqb-true did.word (place % words) w) (sym (div-add-mod place words) ∙ ap (λ n. n + place % words) (mul_comm words (place / words)))))

  values-after : (blocks words : ℕ) → did.block < blocks → did.word < words → (load : Bool) → did.load ≡ load →
      (if load then for_each_below (blocks * words) (value_at words dids) else slice_set (for_each_below (blocks * words) (value_at words dids)) (place_of words did.block did.word) did.value)
      ≡ for_each_below (blocks * words) (value_at words (dids ++ did ∷ []))
  values-after blocks words in_blocks in_words true e =
      sym (λ i. for_each_below (blocks * words) (λ place. last_or 0 (map (λ d. d.value) (filter-none (is_store_to (place / words) (place % words)) (rw e) i))))
  values-after blocks words in_blocks in_words false e =
      set-below (value_at words dids) (value_at words (dids ++ did ∷ [])) (blocks * words) (place_of words did.block did.word) did.value (place-within blocks words did.block did.word in_blocks in_words)
      (rw (div-mul-add did.block words did.word in_words, mod-mul-add did.block words did.word in_words)
      (last-stored 0 (λ d. d.value) (is_store_to did.block did.word) (rw (e, eq-eqb did.block did.block refl, eq-eqb did.word did.word refl))))
      (λ place other. rw (filter-none (is_store_to (place / words) (place % words)) (rw (e, elsewhere words place other))))

  module _ (cores : ℕ) (within : did.core < cores) where
    others-core : (core : ℕ) → core ≢ did.core → filter (λ d. d.core == core) (dids ++ did ∷ []) ≡ filter (λ d. d.core == core) dids
    others-core core other = filter-none (λ d. d.core == core) (ne_eqb did.core core (λ e. other (sym e)))

    counts-after : slice_set (for_each_below cores (count_in dids)) did.core (counted (slice_index (for_each_below cores (count_in dids)) did.core) true) ≡ for_each_below cores (count_in (dids ++ did ∷ []))
    counts-after =
        rw (get_or-map-range_with_len (count_in dids) 0 cores did.core did.core 0 within (zero-add did.core))
        (set-below (count_in dids) (count_in (dids ++ did ∷ [])) cores did.core (counted (count_in dids did.core) true) within count-own (λ core other. rw (others-core core other)))

    lasts-after : slice_set (for_each_below cores (last_in dids)) did.core (Some did) ≡ for_each_below cores (last_in (dids ++ did ∷ []))
    lasts-after =
        set-below (last_in dids) (last_in (dids ++ did ∷ [])) cores did.core (Some did) within (last-stored None Some (λ d. d.core == did.core) (eq-eqb did.core did.core refl)) (λ core other. rw (others-core core other))

-- a board after an operation that counts for it, and other totals
abbrev pub with_totals : Tables → Option Did → Totals → Tables
with_totals board op totals = record (noted board op) { totals = totals }

noted-board : (cores blocks words : ℕ) (dids : List Did) (old new : Totals) (op : Option Did) → ForSome op (λ did. (did.core < cores) × (did.block < blocks) × (did.word < words)) →
    with_totals (board_with cores blocks words dids old) op new ≡ board_with cores blocks words (dids ++ option_to_list op) new
noted-board cores blocks words dids old new None within = rw (append-nil dids)
noted-board cores blocks words dids old new (Some did) within =
    let lies = within did refl in
    rw (values-after dids did blocks words lies.1 lies.2 did.load refl, counts-after dids did cores lies.0, lasts-after dids did cores lies.0)

-- an item that passes the test lies within the shape
pub passes_within : (cores blocks words : ℕ) (entry : Item) → is_within cores blocks words entry ≡ true → IsItemWithin cores blocks words entry
passes_within cores blocks words entry e = grind (arith, common_steps, nat_tests)

pub operation_within-lies : (cores blocks words : ℕ) (entry : Item) (did : Did) → operation_within cores blocks words entry ≡ Some did → (did.core < cores) × (did.block < blocks) × (did.word < words)
operation_within-lies cores blocks words entry did is = grind (arith, common_steps, nat_tests)

-- a board has a count for each core
pub board-cores : (cores blocks words : ℕ) (items : List Item) → length (board_of cores blocks words items).counts ≡ cores
board-cores cores blocks words items = length-map-range_with_len (count_in (operations (inside cores blocks words items))) 0 cores

-- absorbing one item gives the board of the list with it
pub absorbed_board : (cores blocks words : ℕ) (items : List Item) (entry : Item) → absorbed (board_of cores blocks words items) entry ≡ board_of cores blocks words (items ++ entry ∷ [])
absorbed_board cores blocks words items entry =
    let board = board_of cores blocks words items in
    let old = capped_totals (totals_of items) in
    let op = operation_within cores blocks words entry in
    ap (λ (n : ℕ). with_totals board (operation_within n blocks words entry) (tallied old entry)) (board-cores cores blocks words items)
    ∙ (ap (with_totals board op) (capped_totals-push items entry)
    ∙ (noted-board cores blocks words (operations (inside cores blocks words items)) old _ op (operation_within-lies cores blocks words entry)
    ∙ ap (λ (dids : List Did). board_with cores blocks words dids (capped_totals (totals_of (items ++ entry ∷ [])))) (sym (operations-inside-push cores blocks words items entry))))

-- absorbing more items, one by one
pub absorbed_on : (cores blocks words : ℕ) (past items : List Item) → fold absorbed (board_of cores blocks words past) items ≡ board_of cores blocks words (past ++ items)
absorbed_on cores blocks words past [] = rw (append-nil past)
absorbed_on cores blocks words past (x ∷ xs) = rw (absorbed_board cores blocks words past x, absorbed_on cores blocks words (past ++ x ∷ []) xs, append_assoc past (x ∷ []) xs)

-- what a board's sizes say of the shape of its list
pub board-shape : (cores blocks words : ℕ) (items : List Item) {board : Tables} → board ≡ board_of cores blocks words items → (length board.counts ≡ cores) × (board.blocks ≡ blocks) × (board.words ≡ words)
board-shape cores blocks words items is = rw is (board-cores cores blocks words items, refl, refl)

-- two boards that are one have one shape
pub same_shape : (cores blocks words cores' blocks' words' : ℕ) (items items' : List Item) → board_of cores blocks words items ≡ board_of cores' blocks' words' items' → (cores ≡ cores') × (blocks ≡ blocks') × (words ≡ words')
same_shape cores blocks words cores' blocks' words' items items' same =
    let shape = board-shape cores' blocks' words' items' same in (sym (board-cores cores blocks words items) ∙ shape.0, shape.1, shape.2)

-- a board after an item, where what callers see of it is the board of a list
pub board_after : {view board new : Tables} (is_view : view ≡ board) (entry : Item) → new ≡ absorbed view entry →
    (cores blocks words : ℕ) (items : List Item) → board ≡ board_of cores blocks words items → new ≡ board_of cores blocks words (items ++ entry ∷ [])
board_after is_view entry after cores blocks words items is = (rw (is_view ∙ is) at after) ∙ absorbed_board cores blocks words items entry

-- a board after an operation that counts for it
pub absorbed_as : (view new : Tables) (entry : Item) (did : Did) → operation_within (length view.counts) view.blocks view.words entry ≡ Some did →
    new ≡ with_totals view (Some did) (tallied view.totals entry) → new ≡ absorbed view entry
absorbed_as view new entry did is same = rw is same

-- an item within a shape passes the test
within-passes : (cores blocks words : ℕ) (entry : Item) → IsItemWithin cores blocks words entry → is_within cores blocks words entry ≡ true
within-passes cores blocks words entry lies = grind (arith, common_steps, nat_tests)

pub inside_all : (cores blocks words : ℕ) (items : List Item) → All (IsItemWithin cores blocks words) items → inside cores blocks words items ≡ items
inside_all cores blocks words [] all = refl
inside_all cores blocks words (x ∷ xs) all =
    rw (within-passes cores blocks words x (All-head (IsItemWithin cores blocks words) x xs all), inside_all cores blocks words xs (All-tail (IsItemWithin cores blocks words) x xs all))
