-- A log beside the answers of seats, seats beside cores, and what a bench with nothing under way joins.
use Rattle.std.proofs.Common.{◌≡◌, ℕ, ◌+◌, ◌<◌, ◌≤◌, List, [], ◌∷◌, ◌++◌, length, take, drop, Option, Some, None, get_or, refl, sym, ap, ◌∙◌, arith, append_assoc, append-nil, inl, inr}
use Rattle.snoop_cores.proofs.Common.{answers_of, AreInOrder, block_at, cases_eq, cases_lt, Did, eq-eqb, get_or_from_slice_get, IsAnswered, IsFirst, IsFirstOutside, IsFree, IsJoined, IsKept, IsNotAllSeats, IsNumbered, IsServed, IsSome, Item, length-take-le, Locked, ne_eqb, next_number, none-some, OneForEach, operation_of, Row, Seating, slice_get, slice_get-get_or, slice_get_past, slice_get_within, slice_index_or, take-append-drop, take-take, take_at, take_more, Work, work_at, works_under_way}
use Rattle.snoop_cores.proofs.Beginnings.{answers_of-append}
use Rattle.snoop_trace.specs.declared.step.Step.{Step}
use Rattle.snoop_bus.specs.Queues.{queue_of}
use Rattle.snoop_model.{proofs.Invariant.Safety.well_kept_in, specs.{Pictures.Situation.Situation, Runs.Safe.IsSafe, Turns.{Serving.IsServing, Quiet.IsQuiet}}}
use Rattle.snoop_model.specs.{Turns.TurnLaws.ComesToRest, Runs.{Once.accesses_in, TakenOnce.TakenOnce}}

at_seam : (xs ys : List Did) → slice_get (xs ++ ys) (length xs) ≡ slice_get ys 0
at_seam [] ys = refl
at_seam (x ∷ xs) ys = at_seam xs ys

-- the core's operations are so many first answers
abbrev pub AreFirst : List Item → ℕ → ℕ → List Did → Type 0
AreFirst items core count answers = (answers_of items core ≡ take count answers) × (count ≤ length answers)

-- the core's operations in the first items, and then one item more
module _ (items : List Item) (core : ℕ) (answers : List Did) (i n : ℕ) (entry : Item) (there : slice_get items i ≡ Some entry)
    (first : AreFirst (take i items) core n answers) where
  up_to_next : (own : List Did) → own ≡ answers_of (entry ∷ []) core → answers_of (take (i + 1) items) core ≡ take n answers ++ own
  up_to_next own is =
      rw (take_more items i entry (slice_get_within items i entry there), get_or_from_slice_get items i entry entry there, ← first.0, is)
      (answers_of-append (take i items) (entry ∷ []) core)

  -- it is not the core's
  pub next_passes : [] ≡ answers_of (entry ∷ []) core → AreFirst (take (i + 1) items) core n answers
  next_passes own = (up_to_next [] own ∙ append-nil (take n answers), first.1)

  -- its operation stands next among the answers
  pub next_stands : (did : Did) → did ∷ [] ≡ answers_of (entry ∷ []) core → slice_get answers n ≡ Some did → AreFirst (take (i + 1) items) core (n + 1) answers
  next_stands did own here =
      let few = slice_get_within answers n did here in
      (rw (take_more answers n did few, get_or_from_slice_get answers n did did here) (up_to_next (did ∷ []) own), omega (arith, few))

  -- its operation does not stand there
  pub next_differs : (did : Did) → did ∷ [] ≡ answers_of (entry ∷ []) core → (slice_get answers n ≡ Some did → ⊥) → IsFirst (answers_of items core) answers n
  next_differs did own other = record {
    same = ap (take n) whole ∙ take_at before (did ∷ rest) n len;
    differs = λ same. other (sym same ∙ ap (λ (l : List Did). slice_get l n) whole ∙ (rw len at (at_seam before (did ∷ rest))));
  }
    where
      before : List Did
      before = take n answers

      rest : List Did
      rest = answers_of (drop (i + 1) items) core

      len : length before ≡ n
      len = length-take-le n answers first.1

      whole : answers_of items core ≡ before ++ did ∷ rest
      whole =
          ap (λ (l : List Item). answers_of l core) (sym (take-append-drop (i + 1) items)) ∙ answers_of-append (take (i + 1) items) (drop (i + 1) items) core
          ∙ ap (λ (l : List Did). l ++ rest) (up_to_next (did ∷ []) own) ∙ append_assoc before (did ∷ []) rest

-- the core has no more operations, and the answers have
pub first_less : (items : List Item) (core n : ℕ) (answers : List Did) → AreFirst items core n answers → n < length answers → IsFirst (answers_of items core) answers n
first_less items core n [] first few = absurd (omega arith)
first_less items core n (d ∷ answers) first few =
    let all = d ∷ answers in
    let none = slice_get_past (take n all) n (omega (arith, length-take-le n all first.1)) in
    record {
      same = rw first.0 (take-take n n all (omega arith));
      differs = λ same. none-some (get_or all n d) (sym none ∙ (rw first.0 at same) ∙ slice_get-get_or all n d few);
    }

-- a seat that stands where none does
abbrev pub no_seat : Seating
no_seat = record { core = 0; shape = record { cores = 0; blocks = 0; block_bytes = 0; words = 0 }; seen = []; answers = []; pending = None; strange = None; stop = None; turns = 0 }

-- two first strange cores are one
strange_one : (cores : ℕ) (seats : List Seating) (a b : ℕ) → IsFirstOutside cores seats a → IsFirstOutside cores seats b → a ≡ b
strange_one cores seats a b x y =
    let same : x.place ≡ y.place =
    grind (arith, x.there no_seat, y.there no_seat, y.first x.place no_seat, x.first y.place no_seat) in
    sym (rw same at (x.there no_seat)) ∙ y.there no_seat

pub odd_one : (cores : ℕ) (seats : List Seating) (a b : ℕ) → IsNotAllSeats cores seats a → IsNotAllSeats cores seats b → a ≡ b
odd_one cores seats a b (inl x) (inl y) = grind (arith, x.2 b, y.2 a)
odd_one cores seats a b (inl x) (inr y) = absurd (x.1 (y.1 a x.0))
odd_one cores seats a b (inr x) (inl y) = absurd (y.1 (x.1 b y.0))
odd_one cores seats a b (inr x) (inr y) = strange_one cores seats a b x.0 y.0

pub not_odd : (cores : ℕ) (seats : List Seating) (core : ℕ) → OneForEach cores seats → IsNotAllSeats cores seats core → ⊥
not_odd cores seats core all (inl x) = x.1 (all.each core x.0)
not_odd cores seats core all (inr x) = omega (arith, x.0.there no_seat, all.known x.0.place no_seat x.0.inside, x.0.outside)

-- as many as there are
counted : (items : List Item) (core n : ℕ) (answers : List Did) → AreFirst items core n answers → AreFirst items core (next_number items core) answers
counted items core n answers first = rw (ap length first.0 ∙ length-take-le n answers first.1) first

-- and so with the next item, whose operation stands among the answers at its number where it is the core's
pub first_on : (items : List Item) (i : ℕ) (entry : Item) (core : ℕ) (answers : List Did) → slice_get items i ≡ Some entry → IsNumbered (take i items) entry
    → ((did : Did) → operation_of entry ≡ Some did → did.core ≡ core → slice_get answers did.number ≡ Some did)
    → AreFirst (take i items) core (next_number (take i items) core) answers → AreFirst (take (i + 1) items) core (next_number (take (i + 1) items) core) answers
first_on items i entry core answers there numbered stands first = by_operation (operation_of entry) refl
  where
    now : ℕ
    now = next_number (take i items) core

    passed : [] ≡ answers_of (entry ∷ []) core → AreFirst (take (i + 1) items) core (next_number (take (i + 1) items) core) answers
    passed own = counted (take (i + 1) items) core now answers (next_passes items core answers i now entry there first own)

    by_operation : (o : Option Did) → operation_of entry ≡ o → AreFirst (take (i + 1) items) core (next_number (take (i + 1) items) core) answers
    by_operation None e = passed (rw e refl)
    by_operation (Some did) e = elim (cases_eq did.core core) [
      | inl mine ↦
          let is : did.number ≡ now = numbered did e ∙ ap (next_number (take i items)) mine in
          let own : did ∷ [] ≡ answers_of (entry ∷ []) core = rw (e, eq-eqb did.core core mine) refl in
          counted (take (i + 1) items) core (now + 1) answers (next_stands items core answers i now entry there first did own (rw (← is) (stands did e mine)))
      | inr other ↦ passed (rw (e, ne_eqb did.core core other) refl)
    ]

-- where seats stand in order of core, the one at a row's core serves it
pub serves_one : (seats : List Seating) (row : Row) (seat : Seating) → AreInOrder seats → slice_get seats row.core ≡ Some seat
    → IsSome (block_at seat.shape row.address) → IsServed seats row
serves_one seats row seat order there inside =
    let here = slice_get_within seats row.core seat there in
    record {
      has = (row.core, here, λ d. order row.core d here);
      within = λ k d lt same.
          let found : slice_index_or seats k d ≡ seat = rw (sym (order k d lt) ∙ same) (get_or_from_slice_get seats row.core seat d there) in
          rw found inside;
    }

-- where no core of the shape has work under way, nothing is served
serves_nothing : (works : List (Option Work)) (s : Situation) → length works ≡ s.shape.cores → ((core : ℕ) → core < s.shape.cores → work_at works core ≡ None)
    → IsServing (works_under_way works) s → IsServing (λ _. None) s
serves_nothing works s size free serving = record {
  waits = λ core k d lt. never core (slice_index_or (queue_of s.queues core) k d) (serving.waits core k d lt);
  opened = λ block transaction is. never transaction.core block (serving.opened block transaction is);
}
  where
    never : (core block : ℕ) → works_under_way works core ≡ Some block → None ≡ Some block
    never core block is = elim (cases_lt core s.shape.cores) [
      | inl lt ↦ rw (free core lt) at is
      | inr le ↦ rw (slice_get_past works core (omega (arith, le, size))) at is
    ]

pub joins : (b : Locked) (seats : List Seating) (items : List Item) (steps : List Step) → IsKept b → IsSafe b.situation → ComesToRest
    → TakenOnce
    → OneForEach b.situation.shape.cores seats → ((core : ℕ) → core < b.situation.shape.cores → IsFree b seats core)
    → ((core : ℕ) → core < b.situation.shape.cores → IsAnswered b.situation.log seats core)
    → items ≡ b.situation.log → steps ≡ b.steps → IsJoined b.situation.protocol b.situation.shape seats items steps
joins b seats items steps kept safe rests once one_each free answered items_are steps_are = rw (items_are, steps_are) (record {
  at = b.situation;
  taken = kept.run;
  readable = kept.readable;
  log_is = refl;
  joins = record {
    legal = safe.coherent.legal;
    answered = λ k d lt. answered (slice_index_or seats k d).core (one_each.known k d lt) k d lt refl;
  };
  quiet = quiet;
  one_each = one_each;
  idle = λ k d lt. (free (slice_index_or seats k d).core (one_each.known k d lt)).1 k d lt refl;
  -- no operation waits, so those asked are those performed
  once = λ core block.
      rw (quiet.performed core block, append-nil (accesses_in b.situation.log core block)) at (once b.situation.protocol b.situation.shape b.steps b.situation kept.run core block);
})
  where
    quiet : IsQuiet b.situation
    quiet = rests b.situation (serves_nothing b.works b.situation kept.places (λ core lt. (free core lt).0) kept.serving) (well_kept_in _ safe)
