-- What a writer holds, and then a chunk: how the text that they make grows, moves and is cut.
use Rattle.std.proofs.Common.{◌≡◌, ℕ, List, [], ◌++◌, Option, sym, append_assoc}
use Rattle.snoop_trace.proofs.{Common.{Appends, AppendsFront, Gathers, Spills}, OutputLemmas.{appends_more, appends_none, front_after, front_cut}}

-- nothing was gathered yet
pub gathers_none : (a : Option (List ℕ)) (chunk : List ℕ) → chunk ≡ [] → Gathers a a chunk []
gathers_none a chunk e = record { front = []; appends = appends_none a; whole = sym e }

-- a piece was put at the end of the chunk
pub gathers_more : (a b : Option (List ℕ)) (chunk grown text piece : List ℕ) → Gathers a b chunk text → grown ≡ chunk ++ piece → Gathers a b grown (text ++ piece)
gathers_more a b chunk grown text piece far e = record { front = far.front; appends = far.appends; whole = cc (append_assoc far.front chunk piece) }

-- a front of the chunk was written
pub gathers_spilled : (a b c : Option (List ℕ)) (chunk left text : List ℕ) → Gathers a b chunk text → Spills b chunk c left → Gathers a c left text
gathers_spilled a b c chunk left text far spills =
    record { front = far.front ++ spills.front; appends = appends_more a b c far.front spills.front far.appends spills.appends; whole = cc (append_assoc far.front spills.front left) }

-- a stop before a write, whatever was still to come
pub gathers_stop : (a b : Option (List ℕ)) (chunk text rest : List ℕ) → Gathers a b chunk text → AppendsFront a b (text ++ rest)
gathers_stop a b chunk text rest far = front_cut a b text rest (record { front = far.front; rest = chunk; whole = far.whole; appends = far.appends })

-- a stop in a write of the chunk
pub gathers_cut : (a b c : Option (List ℕ)) (chunk text rest : List ℕ) → Gathers a b chunk text → AppendsFront b c chunk → AppendsFront a c (text ++ rest)
gathers_cut a b c chunk text rest far cut = front_cut a c text rest (rw far.whole (front_after a b c far.front chunk far.appends cut))

-- the chunk was written whole
pub gathers_done : (a b c : Option (List ℕ)) (chunk text : List ℕ) → Gathers a b chunk text → Appends b c chunk → Appends a c text
gathers_done a b c chunk text far p = rw far.whole (appends_more a b c far.front chunk far.appends p)
