-- What the rows of a text ask for is what was read of it.
use Rattle.std.proofs.Common.{◌≡◌, ◌+◌, ◌/◌, ℕ, List, [], ◌∷◌, ap, map, refl, sym, ◌∙◌}
use Rattle.std.specs.Prelude.{All, Option, Some, None, Result, Ok, Err, IfOk, IfErr, IfSome}
use Rattle.snoop_trace.proofs.Common.{All-cons, All-head, All-nil, All-tail, Extent, IsWithinLimits, Row, TextFault}
use Rattle.snoop_trace.specs.{Asked.{AreAsked, IsAskedByRow, asked_in, asked_of, step_of}, Text.{Gives, entries_from, entries_in, records_of, rows_of}}
use Rattle.snoop_trace.specs.{Grammar.{◌>>=◌, IsRowWithin, IsStepWithin, row_in}, declared.step.Asked.Asked}
use Rattle.snoop_trace.{specs.declared.fault.TextFault.TheVariants.{Read, NoMemory}, proofs.TextLemmas.{bind_assoc, bind_ok}}
use Rattle.snoop_trace.proofs.WordPlaces.{asked_within as word_within}

-- what all records of a text ask for
all_asked : (shape : Extent) (n : ℕ) (rs : List (List (List ℕ))) → entries_from (asked_in shape) n rs ≡ (entries_from (row_in shape) n rs >>= λ rows. Ok (map (asked_of shape) rows))
unfolding entries_from asked_in
all_asked shape n [] = refl
all_asked shape n (r ∷ rs) = rw (all_asked shape (n + 1) rs) (simp bind_assoc)

-- a row that asks for what was read
pub asked_by : (shape : Extent) (row : Row) (asked : Asked) → IsRowWithin shape row → asked ≡ asked_of shape row → IsAskedByRow shape asked
asked_by shape row asked within asks = record { row = row; within = within; asks = asks }

rows_asked : (shape : Extent) (asked : List Asked) → All (IsAskedByRow shape) asked → (rows : List Row) × (All (IsRowWithin shape) rows × (asked ≡ map (asked_of shape) rows))
rows_asked shape [] all = ([], (All-nil (IsRowWithin shape), refl))
rows_asked shape (a ∷ others) all =
    let first : IsAskedByRow shape a = All-head (IsAskedByRow shape) a others all in
    let (rows, rest) = rows_asked shape others (All-tail (IsAskedByRow shape) a others all) in
    (first.row ∷ rows, (All-cons (IsRowWithin shape) first.row rows first.within rest.0, λ i. first.asks i ∷ rest.1 i))

-- a row is of the shape where what it asks for is asked by such a row
row_within : (shape : Extent) (row : Row) → IsAskedByRow shape (asked_of shape row) → IsRowWithin shape row
row_within shape row by =
    let core : row.core ≡ by.row.core = ap (λ (a : Asked). a.core) by.asks in
    let block : row.address / shape.block_bytes ≡ by.row.address / shape.block_bytes = ap (λ (a : Asked). a.work.block) by.asks in
    (rw core by.within.0, rw block by.within.1)

rows_within : (shape : Extent) (rows : List Row) → All (IsAskedByRow shape) (map (asked_of shape) rows) → All (IsRowWithin shape) rows
rows_within shape [] all = All-nil (IsRowWithin shape)
rows_within shape (row ∷ rows) all =
    All-cons (IsRowWithin shape) row rows (row_within shape row (All-head (IsAskedByRow shape) _ (map (asked_of shape) rows) all))
    (rows_within shape rows (All-tail (IsAskedByRow shape) (asked_of shape row) _ all))

-- the rows of a text whose bytes are known
known : (shape : Extent) (bytes : List ℕ) (asked : List Asked) → All (IsAskedByRow shape) asked
    → entries_in (asked_in shape) None (records_of bytes) ≡ Ok asked → AreAsked shape (Some bytes) asked
unfolding entries_in
known shape bytes asked all says =
    let (rows, given, asks) = bind_ok (entries_from (row_in shape) 1 (records_of bytes)) (λ rows. Ok (map (asked_of shape) rows)) asked (sym (all_asked shape 1 (records_of bytes)) ∙ says) in
    let whole : asked ≡ map (asked_of shape) rows = cc in
    record { rows = rows; within = rows_within shape rows (rw whole at all); given = given; asks = whole }

pub are_asked : {C : Type 0} (shape : Extent) (text : Option (List ℕ)) (listed : C → List Asked) (r : Result C TextFault) → IfOk r (λ c. All (IsAskedByRow shape) (listed c))
    → IfSome text (λ bytes. Gives listed r (entries_in (asked_in shape) None (records_of bytes))) → IfOk r (λ c. AreAsked shape text (listed c))
are_asked shape None listed (Ok c) all gives =
    let (rows, is) = rows_asked shape (listed c) all in
    record { rows = rows; within = is.0; given = tt; asks = is.1 }
are_asked shape (Some bytes) listed (Ok c) all gives = known shape bytes (listed c) all gives
are_asked shape text listed (Err e) all gives = tt

-- both readings have the same fault
same_fault : {C : Type 0} (shape : Extent) (listed : C → List Asked) (fault : TextFault) (said : Result (List Row) TextFault)
    → Gives listed (Err fault) (said >>= λ rows. Ok (map (asked_of shape) rows)) → Gives (λ (rows : List Row). rows) (Err fault) said
same_fault shape listed Read said gives = tt
same_fault shape listed NoMemory said gives = tt
same_fault shape listed fault (Ok rows) gives = cc
same_fault shape listed fault (Err e) gives = cc

pub asked_refused : {C : Type 0} (shape : Extent) (text : Option (List ℕ)) (listed : C → List Asked) (r : Result C TextFault)
    → IfSome text (λ bytes. Gives listed r (entries_in (asked_in shape) None (records_of bytes))) → IfErr r (λ fault. IfSome text (λ bytes. Gives (λ (rows : List Row). rows) (Err fault) (rows_of shape bytes)))
unfolding entries_in
asked_refused shape text listed (Ok c) gives = tt
asked_refused shape None listed (Err fault) gives = tt
asked_refused shape (Some bytes) listed (Err fault) gives = same_fault shape listed fault _ (rw (all_asked shape 1 (records_of bytes)) at gives)

-- what a row of the shape asks for is of the shape
pub asked_within : (shape : Extent) (asked : Asked) → IsWithinLimits shape → IsAskedByRow shape asked → IsStepWithin shape (step_of asked)
asked_within shape asked limits by = rw by.asks (by.within.0, by.within.1, word_within shape by.row.address by.row.op limits)
