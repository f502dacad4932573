-- What dealing the rows to their cores gives.
use Rattle.snoop_engine.proofs.Common.{common_steps, nat_tests, ◌≡◌, ◌≢◌, ℕ, ◌+◌, ◌<◌, Bool, None, List, [], ◌∷◌, ◌++◌, length, map, filter, append_assoc, refl, sym, ◌∙◌, ap, arith, inl, inr, get_or, ◌==◌, All, slice_set, cases_lt, length_push, get_or_default, get_or_past, length-map, All-head, All-tail, Extent, Asked, Op, Row, IsRowWithin, Work, Protocol, reset, turn_rule, length-set, get_or-set_same, get_or-set_other, All-map, All-filter, All-weaker, sum_by-set, HasWord, IsWithinLimits, asked_of, asked_within, IsFit, IsWorkWithin, largest, IsAskedWithin, Todo, todo_of, nothing_to_do, lanes_under_way, left_in, works_by, works_of, range_with_len, slice_index_or, Progress, IsAtTheStart}
use Rattle.snoop_engine.proofs.CourseLemmas.{left_same}
use Rattle.std.proofs.lemmas.List.FromFn.{get_or-range_with_len, length-range_with_len}

-- all asks but those that are left have been dealt
pub record Dealt (shape : Extent) (all rest : List Asked) (lanes : List Todo) : Type 0 where
  pub cores : length lanes ≡ shape.cores
  pub left : (core : ℕ) → (todo_of lanes core).left ++ works_by rest core ≡ works_by all core
  pub idle : (core : ℕ) → (todo_of lanes core).work ≡ None
  pub counted : left_in lanes + length rest ≡ length all
  pub within : All (IsAskedWithin shape) rest

todo_empty : (lanes : List Todo) → All (λ lane. lane ≡ nothing_to_do) lanes → (core : ℕ) → todo_of lanes core ≡ nothing_to_do
todo_empty lanes none core = elim (cases_lt core (length lanes)) [ inl there ↦ none core nothing_to_do there | inr past ↦ get_or_past lanes core nothing_to_do (omega arith) ]

pub dealt_none : (shape : Extent) (all : List Asked) (lanes : List Todo) → All (IsAskedWithin shape) all → length lanes ≡ shape.cores → All (λ lane. lane ≡ nothing_to_do) lanes
    → Dealt shape all all lanes
dealt_none shape all lanes within cores none = record {
  cores = cores;
  left = λ core. ap (λ (t : Todo). t.left ++ works_by all core) (todo_empty lanes none core);
  idle = λ core. ap (λ (t : Todo). t.work) (todo_empty lanes none core);
  counted = (let empty : left_in lanes ≡ 0 = left_same lanes [] (λ k. ap (λ (t : Todo). length t.left) (todo_empty lanes none k)) in omega arith);
  within = within;
}

module _ {shape : Extent} {all rest : List Asked} {lanes : List Todo} (dealt : Dealt shape all rest lanes) where
  -- the first of the asks that are left
  module _ {asked : Asked} {more : List Asked} (first : rest ≡ asked ∷ more) where
    pub first_within : IsAskedWithin shape asked
    first_within = All-head (IsAskedWithin shape) asked more (rw first at dealt.within)

    has_lane : asked.core < length lanes
    has_lane = let cores = dealt.cores in omega (arith, first_within.0)

    -- it was put last into its core's lane
    pub dealt_more : (old next : Todo) → old ≡ get_or lanes asked.core old → next.left ≡ old.left ++ asked.work ∷ [] → next.work ≡ old.work → Dealt shape all more (slice_set lanes asked.core next)
    dealt_more old next read left work =
        let was : todo_of lanes asked.core ≡ old = get_or_default lanes asked.core nothing_to_do old has_lane ∙ sym read in
        let here : todo_of (slice_set lanes asked.core next) asked.core ≡ next = get_or-set_same lanes asked.core next nothing_to_do has_lane in
        let other : (k : ℕ) → k ≢ asked.core → todo_of (slice_set lanes asked.core next) k ≡ todo_of lanes k = λ k ne. get_or-set_other lanes asked.core k next nothing_to_do ne in
        record {
          cores = length-set lanes asked.core next ∙ dealt.cores;
          left = λ core. (let before = rw first at (dealt.left core) in grind (arith, nat_tests, here, other core, was, left, append_assoc));
          idle = λ core. grind (arith, here, other core, was, work, dealt.idle core);
          counted =
              (let one : length next.left ≡ length (todo_of lanes asked.core).left + 1 = rw (left, was) (length_push old.left asked.work) in
              let set = sum_by-set (λ (t : Todo). length t.left) lanes asked.core next nothing_to_do has_lane in
              let counts : left_in lanes + length (asked ∷ more) ≡ length all = rw first at dealt.counted in
              omega (arith, set));
          within = All-tail (IsAskedWithin shape) asked more (rw first at dealt.within);
        }

-- what a core's rows ask for
pub works_of_rows : (shape : Extent) (rows : List Row) (core : ℕ) → works_by (map (asked_of shape) rows) core ≡ works_of shape rows core
works_of_rows shape [] core = refl
works_of_rows shape (row ∷ rows) core =
    grind (arith, common_steps, works_of_rows shape rows core)

-- what is asked for within a shape is within the largest
pub in_largest : (shape : Extent) (asked : Asked) → IsWithinLimits shape → IsAskedWithin shape asked → IsAskedWithin largest asked
in_largest shape asked limits within =
    (omega (arith, within.0, limits.cores), omega (arith, within.1, limits.blocks), omega (arith, within.2, limits.words.1))

-- asks of rows of the shape are of the shape
pub asks_within : (shape : Extent) (rows : List Row) (asks : List Asked) → IsWithinLimits shape → All (IsRowWithin shape) rows → asks ≡ map (asked_of shape) rows → All (IsAskedWithin shape) asks
asks_within shape rows asks limits within is =
    rw is
    (All-map (IsAskedWithin shape) (asked_of shape) rows
    (All-weaker (IsRowWithin shape) (λ r. IsAskedWithin shape (asked_of shape r)) (λ r h. (h.0, h.1, asked_within shape r.address r.op limits)) rows within))

-- a driver that has these asks left is at the start of the rows
pub at_the_start : (protocol : Protocol) (shape : Extent) (rows : List Row) (asks : List Asked) (start : Progress) → start.situation ≡ reset protocol shape → asks ≡ map (asked_of shape) rows
    → ((core : ℕ) → (todo_of start.lanes core).left ≡ works_by asks core) → left_in start.lanes ≡ length asks → IsAtTheStart protocol shape rows start
at_the_start protocol shape rows asks start at is left counted =
    record { situation = at; left = λ core. left core ∙ rw is (works_of_rows shape rows core); all = counted ∙ rw is (length-map rows (asked_of shape)) }

-- a word below the shape's is there
word_there : (shape : Extent) (word : ℕ) (asking : Op) → IsWithinLimits shape → word < shape.words → HasWord shape word asking
word_there shape word asking limits few = grind (arith, common_steps, limits.words.1)

-- each work is of a block and a word that there are
pub works_within : (protocol : Protocol) (shape : Extent) (asks : List Asked) (core : ℕ) → IsWithinLimits shape → All (IsAskedWithin shape) asks
    → All (IsWorkWithin (reset protocol shape)) (works_by asks core)
works_within protocol shape asks core limits within =
    let p : Asked → Bool = λ a. a.core == core in
    let W : Work → Type 0 = IsWorkWithin (reset protocol shape) in
    All-map W (λ (a : Asked). a.work) (filter p asks)
    (All-filter p (λ (a : Asked). W a.work) asks
    (All-weaker (IsAskedWithin shape) (λ (a : Asked). W a.work) (λ a h. (h.1, word_there shape a.work.word a.work.op limits h.2)) asks within))

-- a driver is fit at its start
pub fit_new : (protocol : Protocol) (shape : Extent) (asks : List Asked) (lanes : List Todo) (turns : List ℕ) → IsWithinLimits shape → All (IsAskedWithin shape) asks
    → length lanes ≡ shape.cores → ((core : ℕ) → (todo_of lanes core).left ≡ works_by asks core) → ((core : ℕ) → (todo_of lanes core).work ≡ None)
    → turns ≡ range_with_len 0 shape.cores → IsFit (reset protocol shape) lanes turns
fit_new protocol shape asks lanes turns limits within cores left idle all =
    let start = turn_rule.starts_well protocol shape (lanes_under_way lanes) in
    let long : length turns ≡ shape.cores = rw all (length-range_with_len 0 shape.cores) in
    let each : (k d : ℕ) → k < shape.cores → slice_index_or turns k d ≡ k = λ k d low. rw all (omega (arith, get_or-range_with_len 0 shape.cores k d low)) in
    record {
      cores = cores;
      within = λ core. record { left = rw (left core) (works_within protocol shape asks core limits within); work = rw (idle core) tt };
      serving = start.1;
      kept = start.0;
      few = λ k d lt. (let low : k < shape.cores = omega arith in rw (each k d low) low);
      busy = λ core. elim (cases_lt core shape.cores) [
        | inl lt ↦ inl (core, omega arith, each core core lt)
        | inr ge ↦
            (let past : todo_of lanes core ≡ nothing_to_do = get_or_past lanes core nothing_to_do (omega arith) in inr (rw past (refl, refl)))
      ];
    }
