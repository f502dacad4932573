-- What a seat has done of its rows.
-- Source: this project's profile.
use Rattle.std.specs.Prelude.{◌≡◌, ℕ, ◌<◌, ◌==◌, List, [], ◌∷◌, ◌++◌, length, take, filter, map, Option, Some, None, Bool, true, false, All, IsSome, ⊤, slice_get, slice_index_or, Vec}
use Rattle.std.specs.{Borrow.Bor, declared.alloc.Global.Global, List.AllZip}
use Rattle.snoop_trace.specs.{Extent.Extent, Grammar.{block_at, word_asked}, declared.step.{Op.Op, Row.Row, Work.Work}}
use Rattle.snoop_trace.specs.declared.step.Op.TheVariants as op
use Rattle.snoop_history.specs.declared.items.Did.{Did}
use Rattle.snoop_bench.specs.Works.{Does}
use Rattle.snoop_cores.specs.declared.{fault.{SeatFault.{SeatFault, TheVariants.NoBlock}, RunFault.{RunFault, TheVariants.{NoSeat, NoMemory}}}, stop.Stop.Stop}
use Rattle.snoop_cores.specs.{declared.stop.Stop.TheVariants.{Late, Fault}, Seats.Seating, Calls.{Stays, MayBegin, IsSettled, Fails}}

-- the operation adds an answer: a load or a store
abbrev pub is_answered : Op → Bool
is_answered op.Load = true
is_answered (op.Store value) = true
is_answered op.Evict = false

-- the work of a row on this block: a load or a store is of the word of the row's address
abbrev pub work_on : Extent → ℕ → Row → Work
work_on shape block row = record { block = block; word = word_asked shape row.address row.op; op = row.op }

-- the operation does the row, at the block and the word of its address
abbrev pub DoesRow : Extent → Row → Did → Type 0
DoesRow shape row did = (block : ℕ) × (block_at shape row.address ≡ Some block) × Does did (work_on shape block row)

-- the core's rows, in order
abbrev pub rows_of_core : ℕ → List Row → List Row
rows_of_core core rows = filter (λ (row : Row). row.core == core) rows

-- one operation for each load and store among the rows, in order
abbrev pub AnswersRows : Extent → List Row → List Did → Type 0
AnswersRows shape rows dids = AllZip (DoesRow shape) (filter (λ (row : Row). is_answered row.op) rows) dids

-- the row's operation, on the block and the word of its address, may begin
abbrev pub MayDo : Row → Seating → Type 0
MayDo row s = (block : ℕ) × (block_at s.shape row.address ≡ Some block) × MayBegin (work_on s.shape block row) s

-- the first of the rows may begin
abbrev pub MayDoFirst : List Row → Seating → Type 0
MayDoFirst [] s = ⊤
MayDoFirst (row ∷ rows) s = MayDo row s

-- the seat after these rows is settled; after none, it is as it was, but for where its rows stopped
abbrev pub Leaves : List Row → Seating → Seating → Type 0
Leaves [] s t = t ≡ record s { stop = t.stop }
Leaves (row ∷ rows) s t = IsSettled t

-- the seat has done these rows: the first could begin, and the answers have grown by their loads and stores
pub record Grows (rows : List Row) (s t : Seating) : Type 0 where
  pub began : MayDoFirst rows s
  pub stays : Stays s t
  pub added : (dids : List Did) × (t.answers ≡ s.answers ++ dids) × AnswersRows s.shape rows dids
  pub leaves : Leaves rows s t

-- the row was refused: as its operation on its block is, or as outside the shape
abbrev pub FailsOn : Option ℕ → SeatFault → Row → Seating → Seating → Type 0
FailsOn (Some block) fault row s t = Fails fault (work_on s.shape block row) s t
FailsOn None fault row s t = (fault ≡ NoBlock) × (t ≡ s)

-- the seat refused the row
abbrev pub FailsRow : SeatFault → Row → Seating → Seating → Type 0
FailsRow fault row s t = FailsOn (block_at s.shape row.address) fault row s t

-- the gate stopped the seat before the row of this number
abbrev pub IsLate : ℕ → List Row → Seating → Seating → Type 0
IsLate number rows s t = (number < length rows) × Grows (take number rows) s t

-- the seat refused the row of this number, after it had done those before
pub record IsRefused (number : ℕ) (fault : SeatFault) (rows : List Row) (s t : Seating) : Type 0 where
  pub row : Row
  pub there : slice_get rows number ≡ Some row
  pub between : Seating
  pub grown : Grows (take number rows) s between
  pub fails : FailsRow fault row between t

-- the gate did not stop it
abbrev pub IsNotLate : Option Stop → Type 0
IsNotLate (Some (Late number)) = ⊥
IsNotLate _ = ⊤

-- the seat has done all these rows; or it stopped at one of them, and has done those before it
abbrev pub Ran : Option Stop → List Row → Seating → Seating → Type 0
Ran None rows s t = Grows rows s t
Ran (Some (Late number)) rows s t = IsLate number rows s t
Ran (Some (Fault number fault)) rows s t = IsRefused number fault rows s t

-- the seat has done all its rows; or it stopped at a row, and has done those before it
abbrev pub RanTo : Option Stop → List Row → Seating → Seating → Type 0
RanTo stop rows s t = Ran stop (rows_of_core s.core rows) s t

-- the rows that a list of references shows
abbrev pub shown : List (Bor Row) → List Row
shown rows = map (λ (row : Bor Row). row.now) rows

-- the list at each core's place has the core's rows, in order
abbrev pub AreDealt : List Row → List (Vec (Bor Row) Global) → Type 0
AreDealt rows dealt = (core : ℕ) (own : Vec (Bor Row) Global) → slice_get dealt core ≡ Some own → shown own.items ≡ rows_of_core core rows

-- the seat has done all the rows of the list at its core's place; or it stopped at one of them, and has done those before it
abbrev pub RanDealt : List (Vec (Bor Row) Global) → Seating → Seating → Type 0
RanDealt dealt s t = (own : Vec (Bor Row) Global) → slice_get dealt s.core ≡ Some own → Ran t.stop (shown own.items) s t

-- the core has a seat, and the row's address lies within the shape of each of its seats
pub record IsServed (seats : List Seating) (row : Row) : Type 0 where
  pub has : (place : ℕ) × (place < length seats) × ((d : Seating) → (slice_index_or seats place d).core ≡ row.core)
  pub within : All (λ seat. seat.core ≡ row.core → IsSome (block_at seat.shape row.address)) seats

-- the first row that is not served
pub record IsUnserved (seats : List Seating) (rows : List Row) (row : Row) : Type 0 where
  pub place : ℕ
  pub inside : place < length rows
  pub there : (d : Row) → slice_index_or rows place d ≡ row
  pub unserved : ¬ IsServed seats row
  pub first : (before : ℕ) (d : Row) → before < place → IsServed seats (slice_index_or rows before d)

-- why no row was performed
abbrev pub RefusesRows : List Seating → List Row → RunFault → Type 0
RefusesRows seats rows (NoSeat core) = (row : Row) × IsUnserved seats rows row × (row.core ≡ core)
RefusesRows seats rows NoMemory = All (IsServed seats) rows
