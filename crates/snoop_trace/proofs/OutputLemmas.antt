-- What a writer holds after several writes.
use Rattle.std.proofs.Common.{ℕ, ◌+◌, List, [], ◌++◌, length, take, drop, Option, Some, None, refl, sym, ◌∙◌, append_assoc, ◌≡◌, ◌≤◌, ap, arith}
use Rattle.std.{specs.{Prelude.{Result, Ok, Err, OnErr, ◌-◌}, List.slice_range}, proofs.{Math.Seq.take-add, lemmas.List.Concat.flat_map-append}}
use Rattle.snoop_trace.proofs.Common.{Appends, AppendsFront, Extent, Keeps, Step, slice-end, steps_text, take-append-drop}
pub use Rattle.csv.proofs.WriteFacts.{appends-more as appends_more, appends-none as appends_none}

appends_same : (a b c : Option (List ℕ)) (x : List ℕ) → Appends a b x → Keeps b c → Appends a c x
appends_same None b c x p q = tt
appends_same (Some xs) (Some ys) (Some zs) x p q = q ∙ p
appends_same (Some xs) None c x p q = absurd p
appends_same (Some xs) (Some ys) None x p q = absurd q

-- n more bytes were taken of those from `at` on
pub took_more : (a b c : Option (List ℕ)) (text : List ℕ) (at n : ℕ) → Appends a b (take at text) → Appends b c (take n (take (length text - at) (drop at text)))
    → Appends a c (take (at + n) text)
took_more a b c text at n p q =
    rw (take-add at n text) (appends_more a b c (take at text) (take n (drop at text)) p (rw (slice-end text at) at q))

-- none was taken
pub stopped : (a b c : Option (List ℕ)) (text : List ℕ) (at : ℕ) → Appends a b (take at text) → Keeps b c → AppendsFront a c text
stopped a b c text at p q =
    record { front = take at text; rest = drop at text; whole = sym (take-append-drop at text); appends = appends_same a b c (take at text) p q }

-- nothing was written of a text
pub appends_none_of : (a : Option (List ℕ)) (text : List ℕ) → AppendsFront a a text
appends_none_of a text = record { front = []; rest = text; whole = refl; appends = appends_none a }

pub on_err : {T E : Type 0} (r : Result T E) (P : Type 0) → P → OnErr r P
on_err (Ok x) P p = tt
on_err (Err e) P p = p

-- a beginning of a text is one of a longer text
pub front_cut : (a b : Option (List ℕ)) (x y : List ℕ) → AppendsFront a b x → AppendsFront a b (x ++ y)
front_cut a b x y f = record { front = f.front; rest = f.rest ++ y; whole = cc (append_assoc f.front f.rest y); appends = f.appends }

-- a text, and then a beginning of another
pub front_after : (a b c : Option (List ℕ)) (x y : List ℕ) → Appends a b x → AppendsFront b c y → AppendsFront a c (x ++ y)
front_after a b c x y p f =
    record { front = x ++ f.front; rest = f.rest; whole = cc (append_assoc x f.front f.rest); appends = appends_more a b c x f.front p f.appends }

-- the lines of the first steps, and then those to come
lines_split : (shape : Extent) (steps : List Step) (i : ℕ) → steps_text shape steps ≡ steps_text shape (take i steps) ++ steps_text shape (drop i steps)
lines_split shape steps i = ap (steps_text shape) (sym (take-append-drop i steps)) ∙ flat_map-append _ (take i steps) (drop i steps)

-- a stop before a write
pub batch_stop : (a b : Option (List ℕ)) (shape : Extent) (steps : List Step) (i : ℕ)
    → Appends a b (steps_text shape (take i steps)) → AppendsFront a b (steps_text shape steps)
batch_stop a b shape steps i far = record { front = steps_text shape (take i steps); rest = steps_text shape (drop i steps); whole = lines_split shape steps i; appends = far }

-- a batch of steps more
batch_lines : (shape : Extent) (steps : List Step) (i j : ℕ) → i ≤ j → steps_text shape (take j steps) ≡ steps_text shape (take i steps) ++ steps_text shape (slice_range steps i j)
batch_lines shape steps i j le =
    let sum : i + (j - i) ≡ j = omega (arith, le) in
    let split : take j steps ≡ take i steps ++ slice_range steps i j = rw sum at (take-add {A = Step} i (j - i) steps) in
    ap (steps_text shape) split ∙ flat_map-append _ (take i steps) (slice_range steps i j)

-- a batch was written
pub batch_more : (a b c : Option (List ℕ)) (shape : Extent) (steps : List Step) (i j : ℕ) → i ≤ j
    → Appends a b (steps_text shape (take i steps)) → Appends b c (steps_text shape (slice_range steps i j)) → Appends a c (steps_text shape (take j steps))
batch_more a b c shape steps i j le far more = rw (batch_lines shape steps i j le) (appends_more a b c (steps_text shape (take i steps)) (steps_text shape (slice_range steps i j)) far more)

-- a stop in a write
pub batch_cut : (a b c : Option (List ℕ)) (shape : Extent) (steps : List Step) (i j : ℕ) → i ≤ j
    → Appends a b (steps_text shape (take i steps)) → AppendsFront b c (steps_text shape (slice_range steps i j)) → AppendsFront a c (steps_text shape steps)
batch_cut a b c shape steps i j le far cut =
    rw (lines_split shape steps j, batch_lines shape steps i j le) (front_cut a c _ (steps_text shape (drop j steps)) (front_after a b c _ (steps_text shape (slice_range steps i j)) far cut))
