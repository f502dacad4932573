-- Rows: dealt to the lists of their cores, and what a seat has done of them.
use Rattle.std.proofs.Common.{◌≡◌, ℕ, ◌+◌, ◌<◌, List, [], ◌∷◌, ◌++◌, length, take, Some, get_or, refl, sym, ap, subst, ◌∙◌, arith, append-nil, inl, inr, filter, Option, append_assoc, None}
use Rattle.snoop_cores.proofs.Common.{AnswersRows, AreDealt, block_at, cases_eq, common_steps, Completes, Did, DoesRow, eq-eqb, Extent, Fails, FailsOn, filter-append, filter_more, gets, Grows, is_answered, IsSettled, Leaves, map-append, MayDo, MayBegin, MayDoFirst, ne_eqb, Op, Ran, RanDealt, RanTo, Row, rows_of_core, Seating, slice_get, slice_get-get_or, slice_get_cases, slice_set, take_more, Vec, Work, word_asked, work_on}
use Rattle.std.specs.{Borrow.Bor, declared.alloc.Global.Global, List.AllZip}
use Rattle.snoop_trace.specs.declared.step.Op.TheVariants.{Load}
use Rattle.snoop_cores.{specs.declared.{stop.Stop.{Stop, TheVariants.{Late, Fault}}, fault.SeatFault.SeatFault}, proofs.Beginnings.starts_on}

abbrev pub Own : Type 0
Own = Vec (Bor Row) Global

-- the next row, once it is put last into its core's list
pub dealt_more : (rows : List Row) (i : ℕ) (d : Row) (dealt : List Own) (row : Bor Row) (old new : Own) → i < length rows → row.now ≡ get_or rows i d
    → (get_or rows i d).core < length dealt
    → get_or dealt (get_or rows i d).core old ≡ old → new.items ≡ old.items ++ row ∷ [] → AreDealt (take i rows) dealt → AreDealt (take (i + 1) rows) (slice_set dealt (get_or rows i d).core new)
dealt_more rows i d dealt row old new h is inside was put dealt_so core own there =
    let at = (get_or rows i d).core in
    elim (cases_eq core at) [
      | inl same ↦
          let own_is : own ≡ new = grind (arith, common_steps, gets) in
          let before = dealt_so core old (ap (slice_get dealt) same ∙ slice_get-get_or dealt at old inside ∙ ap Some was) in
          rw (own_is, put, map-append, before, is, filter_more _ rows i d h, eq-eqb at core (sym same)) refl
      | inr other ↦
          let here : slice_get dealt core ≡ Some own = grind (arith, common_steps, gets) in
          rw (dealt_so core own here, filter_more _ rows i d h, ne_eqb at core (λ same. other (sym same))) (sym (append-nil (rows_of_core core (take i rows))))
    ]

-- a seat that ran the list at its core's place ran its core's rows
pub ran_to : (rows : List Row) (dealt : List Own) (s t : Seating) → AreDealt rows dealt → s.core < length dealt → RanDealt dealt s t → RanTo t.stop rows s t
ran_to rows dealt s t are lt ran = elim (slice_get_cases dealt s.core).1 [
  | inl own ↦ rw (are s.core own.0 own.2) at (ran own.0 own.2)
  | inr past ↦ absurd (omega (arith, lt, past.0))
]

-- a row whose operation is over, and whose answers are these
pub row_over : {row : Row} {op : Op} {block word : ℕ} {dids : List Did} {s t : Seating} → row.op ≡ op → block_at s.shape row.address ≡ Some block → word ≡ word_asked s.shape row.address op
    → Completes (record { block = block; word = word; op = op }) dids s t → AnswersRows s.shape (row ∷ []) dids → Grows (row ∷ []) s t
row_over {row} {op} {block} {word} {dids} {s} {t} same at is over answers =
    let work : record { block = block; word = word; op = op } ≡ work_on s.shape block row = λ i. record { block = block; word = (is ∙ ap (word_asked s.shape row.address) (sym same)) i; op = sym same i } in
    record { began = (block, at, subst (λ (w : Work). MayBegin w s) work over.began); stays = over.stays; added = (dids, over.answers, answers); leaves = over.settled }

-- a row that stands where none does
abbrev pub no_row : Row
no_row = record { core = 0; op = Load; address = 0 }

pub AllZip-append : {A B : Type 0} (R : A → B → Type 0) (xs us : List A) (ys vs : List B) → AllZip R xs ys → AllZip R us vs → AllZip R (xs ++ us) (ys ++ vs)
AllZip-append R [] us [] vs h k = k
AllZip-append R (x ∷ xs) us (y ∷ ys) vs h k = (h.0, AllZip-append R xs us ys vs h.1 k)
AllZip-append R _ us _ vs h k = absurd h

pub answers-append : (shape : Extent) (rows more : List Row) (dids also : List Did) → AnswersRows shape rows dids → AnswersRows shape more also → AnswersRows shape (rows ++ more) (dids ++ also)
answers-append shape rows more dids also h k =
    rw (filter-append (λ row. is_answered row.op) rows more)
    (AllZip-append (DoesRow shape) (filter (λ row. is_answered row.op) rows) (filter (λ row. is_answered row.op) more) dids also h k)

-- one row more: the first of them all could begin, and the seat is as the last one left it
more_leaves : (rows : List Row) (row : Row) (s t u : Seating) → Leaves rows s t → MayDoFirst rows s → MayDo row t → IsSettled u
    → MayDoFirst (rows ++ row ∷ []) s × Leaves (rows ++ row ∷ []) s u
more_leaves rows row s t u h b k settled = grind arith

grows_more : (rows : List Row) (row : Row) (s t u : Seating) → Grows rows s t → Grows (row ∷ []) t u → Grows (rows ++ row ∷ []) s u
grows_more rows row s t u h k =
    let more = more_leaves rows row s t u h.leaves h.began k.began k.leaves in
    record {
      began = more.0;
      stays = record { core = k.stays.core ∙ h.stays.core; shape = k.stays.shape ∙ h.stays.shape; begins = starts_on u.seen t.seen s.seen k.stays.begins h.stays.begins };
      added = (
        h.added.0 ++ k.added.0,
        rw (k.added.1, h.added.1) (append_assoc s.answers h.added.0 k.added.0),
        answers-append s.shape rows (row ∷ []) h.added.0 k.added.0 h.added.2 (rw h.stays.shape at k.added.2),
      );
      leaves = more.1;
    }

-- it did the next row
pub did_row : (rows : List Row) (i : ℕ) (d : Row) (s t u : Seating) → i < length rows → Grows (take i rows) s t → Grows (get_or rows i d ∷ []) t u → Grows (take (i + 1) rows) s u
did_row rows i d s t u h grows one = rw (take_more rows i d h) (grows_more (take i rows) (get_or rows i d) s t u grows one)

-- the seat, with another note
abbrev noted : Option Stop → Seating → Seating
noted stop s = record s { stop = stop }

leaves_noted : (stop : Option Stop) (rows : List Row) (s t : Seating) → Leaves rows s t → Leaves rows s (noted stop t)
leaves_noted stop rows s t h = grind arith

grows_noted : (stop : Option Stop) (rows : List Row) (s t : Seating) → Grows rows s t → Grows rows s (noted stop t)
grows_noted stop rows s t h = search leaves_noted

fails_noted : (stop : Option Stop) (fault : SeatFault) (work : Work) (s t : Seating) → Fails fault work s t → Fails fault work (noted stop s) (noted stop t)
fails_noted stop fault work s t h = grind arith

fails_on_noted : (stop : Option Stop) (block : Option ℕ) (fault : SeatFault) (row : Row) (s t : Seating) → FailsOn block fault row s t → FailsOn block fault row (noted stop s) (noted stop t)
fails_on_noted stop block fault row s t h = grind (arith, fails_noted)

pub ran_noted : (note stop : Option Stop) (rows : List Row) (s t : Seating) → Ran stop rows s t → Ran stop rows s (noted note t)
ran_noted note None rows s t h = grows_noted note rows s t h
ran_noted note (Some (Late number)) rows s t h = (h.0, grows_noted note (take number rows) s t h.1)
ran_noted note (Some (Fault number fault)) rows s t h = record {
  row = h.row;
  there = h.there;
  between = noted note h.between;
  grown = grows_noted note (take number rows) s h.between h.grown;
  fails = fails_on_noted note (block_at h.between.shape h.row.address) fault h.row h.between t h.fails;
}
