-- What a gathering says of the seats and of the lock.
-- Source: this project's profile.
use Rattle.std.specs.Prelude.{◌≡◌, ◌≢◌, ◌⊎◌, ℕ, ◌<◌, ◌≤◌, ◌==◌, List, length, take, filter, filter_map, All, None, slice_get, slice_index_or}
use Rattle.std.specs.List.Sorted.{IsPermutation}
use Rattle.snoop_trace.specs.{Extent.Extent, Output.IsReadableStep, declared.{step.Step.Step, protocol.Protocol.Protocol}}
use Rattle.snoop_history.specs.{declared.items.{Did.Did, Item.Item}, History.{Legal, answers_of}}
use Rattle.snoop_model.specs.{Pictures.Situation.Situation, Runs.{Run.AllTaken, Once.{asked_access, accesses_in}}, Turns.Quiet.IsQuiet}
use Rattle.snoop_bench.specs.{Locked.{Locked, IsKept}, Works.work_at}
use Rattle.snoop_cores.specs.{Seats.Seating, declared.fault.GatherFault.{GatherFault, TheVariants.{Mismatch, Pending, NoMemory, NotAllSeats}}}

-- how many seats the core has
abbrev pub seats_of : List Seating → ℕ → ℕ
seats_of seats core = length (filter (λ (seat : Seating). seat.core == core) seats)

-- one seat for each core, and no other
pub record OneForEach (cores : ℕ) (seats : List Seating) : Type 0 where
  pub each : (core : ℕ) → core < cores → seats_of seats core ≡ 1
  pub known : All (λ seat. seat.core < cores) seats

-- the least core with no seat or with several
abbrev pub IsLeastNotSeated : ℕ → List Seating → ℕ → Type 0
IsLeastNotSeated cores seats core = (core < cores) × (seats_of seats core ≢ 1) × ((lower : ℕ) → lower < core → seats_of seats lower ≡ 1)

-- the first seat's core that is outside the shape
pub record IsFirstOutside (cores : ℕ) (seats : List Seating) (core : ℕ) : Type 0 where
  pub outside : cores ≤ core
  pub place : ℕ
  pub inside : place < length seats
  pub there : (d : Seating) → (slice_index_or seats place d).core ≡ core
  pub first : (before : ℕ) (d : Seating) → before < place → (slice_index_or seats before d).core < cores

-- the least core with no seat or with several; or, if each core has one, the first core outside the shape that has a seat
abbrev pub IsNotAllSeats : ℕ → List Seating → ℕ → Type 0
IsNotAllSeats cores seats core = IsLeastNotSeated cores seats core ⊎ (IsFirstOutside cores seats core × ((each : ℕ) → each < cores → seats_of seats each ≡ 1))

-- the core's seats have no pending operation
abbrev pub HasNonePending : List Seating → ℕ → Type 0
HasNonePending seats core = All (λ seat. seat.core ≡ core → seat.pending ≡ None) seats

-- the core has no work under way, and its seats have no pending operation
abbrev pub IsFree : Locked → List Seating → ℕ → Type 0
IsFree b seats core = (work_at b.works core ≡ None) × HasNonePending seats core

-- the core's operations in the list are its seats' answers
abbrev pub IsAnswered : List Item → List Seating → ℕ → Type 0
IsAnswered items seats core = All (λ seat. seat.core ≡ core → answers_of items core ≡ seat.answers) seats

-- the first place where two lists differ
pub record IsFirst (xs ys : List Did) (place : ℕ) : Type 0 where
  pub same : take place xs ≡ take place ys
  pub differs : slice_get xs place ≢ slice_get ys place

-- a seat of the core, whose answers differ at first at this place from the core's operations in the list
pub record DiffersAt (items : List Item) (seats : List Seating) (core place : ℕ) : Type 0 where
  pub which : ℕ
  pub inside : which < length seats
  pub of_core : (d : Seating) → (slice_index_or seats which d).core ≡ core
  pub differs : (d : Seating) → IsFirst (answers_of items core) (slice_index_or seats which d).answers place

-- a bench of this protocol and shape
pub record IsHeld (protocol : Protocol) (shape : Extent) (b : Locked) : Type 0 where
  pub kept : IsKept b
  pub protocol_is : b.situation.protocol ≡ protocol
  pub shape_is : b.situation.shape ≡ shape

-- a history that joins the seats: it is legal, and each seat was answered exactly its core's operations in it
pub record Joins (items : List Item) (seats : List Seating) : Type 0 where
  pub legal : Legal items
  pub answered : All (λ seat. answers_of items seat.core ≡ seat.answers) seats

-- a log and steps that belong together, at whose end nothing waits or is open, and seats with nothing pending; the log joins the seats
pub record IsJoined (protocol : Protocol) (shape : Extent) (seats : List Seating) (items : List Item) (steps : List Step) : Type 0 where
  -- the steps were all taken, lead there from reset, and made this log
  pub at : Situation
  pub taken : AllTaken protocol shape steps at
  -- each step is one that is read again from its text
  pub readable : All (IsReadableStep shape) steps
  pub log_is : items ≡ at.log
  pub joins : Joins items seats
  -- no core waits, and no transaction is open
  pub quiet : IsQuiet at
  -- the seats are one for each core, and none has a pending operation
  pub one_each : OneForEach shape.cores seats
  pub idle : All (λ seat. seat.pending ≡ None) seats
  -- the loads and stores that the steps ask are the operations of the log, each as often
  pub once : (core block : ℕ) → IsPermutation (filter_map (asked_access core block) steps) (accesses_in items core block)

-- no core has work under way, and no seat has a pending operation
abbrev pub IsFreeOfWork : Locked → List Seating → Type 0
IsFreeOfWork b seats = (core : ℕ) → core < b.situation.shape.cores → IsFree b seats core

-- a bench and seats, one for each core, do not join: the least core that is not free; or, where all are free, the least core whose answers differ, and the first place where they do; or, where none differ, only memory
abbrev pub RefusesJoin : Locked → List Seating → GatherFault → Type 0
RefusesJoin b seats (NotAllSeats core) = ⊥
RefusesJoin b seats (Pending core) = (core < b.situation.shape.cores) × ((lower : ℕ) → lower < core → IsFree b seats lower) × ¬ IsFree b seats core
RefusesJoin b seats (Mismatch core place) =
    IsFreeOfWork b seats × (core < b.situation.shape.cores)
    × ((lower : ℕ) → lower < core → IsAnswered b.situation.log seats lower) × DiffersAt b.situation.log seats core place
RefusesJoin b seats NoMemory = IsFreeOfWork b seats × ((core : ℕ) → core < b.situation.shape.cores → IsAnswered b.situation.log seats core)

-- why nothing was gathered: the seats are not one for each core, or do not join some bench of this protocol and shape
abbrev pub RefusesGather : Protocol → Extent → List Seating → GatherFault → Type 0
RefusesGather protocol shape seats (NotAllSeats core) = IsNotAllSeats shape.cores seats core
RefusesGather protocol shape seats fault = OneForEach shape.cores seats × ((b : Locked) × IsHeld protocol shape b × RefusesJoin b seats fault)
