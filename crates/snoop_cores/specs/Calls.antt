-- What a call of a seat leaves: after it is over, and after each fault.
-- Source: this project's profile.
use Rattle.std.specs.Prelude.{◌≡◌, ◌≢◌, ◌⊎◌, ◌<◌, List, [], ◌∷◌, ◌++◌, map, Some, None}
use Rattle.snoop_trace.specs.{Words.HasWord, Extent.Extent, declared.step.Work.Work}
use Rattle.snoop_history.specs.{declared.items.Did.Did, History.{answers_of, last_or}}
use Rattle.snoop_bench.specs.Works.{Does}
use Rattle.snoop_versions.specs.Readings.{IsHistoryFor, StartsWith}
use Rattle.snoop_cores.specs.{declared.fault.SeatFault.{SeatFault, TheVariants.{NoBlock, NoMemory, Busy, Stranger}}, Seats.Seating}

-- the shape has the work's block and its word
abbrev pub IsHere : Extent → Work → Type 0
IsHere shape work = (work.block < shape.blocks) × HasWord shape work.word work.op

-- it is the same seat, and what it has seen begins with what it had seen
pub record Stays (s t : Seating) : Type 0 where
  pub core : t.core ≡ s.core
  pub shape : t.shape ≡ s.shape
  pub begins : StartsWith t.seen s.seen

-- the operation may begin: no stranger's operation was reported, and no other is pending
pub record MayBegin (work : Work) (s : Seating) : Type 0 where
  pub strange : s.strange ≡ None
  pub pending : (s.pending ≡ None) ⊎ (s.pending ≡ Some work)

-- what the seat has seen is the history of a machine of its shape
abbrev pub HasSeenHistory : Seating → Type 0
HasSeenHistory s = IsHistoryFor s.shape s.seen

-- nothing is pending or reported, and what was seen is a machine's history and has the core's operations exactly as the seat was answered them
pub record IsSettled (s : Seating) : Type 0 where
  pub history : HasSeenHistory s
  pub shown : answers_of s.seen s.core ≡ s.answers
  pub pending : s.pending ≡ None
  pub strange : s.strange ≡ None

-- the call is over: the operation could begin, the count of turns has changed, these are the answers, and the seat is settled
pub record Completes (work : Work) (dids : List Did) (s t : Seating) : Type 0 where
  pub began : MayBegin work s
  pub stays : Stays s t
  pub turned : t.turns ≢ s.turns
  pub answers : t.answers ≡ s.answers ++ dids
  pub settled : IsSettled t

-- no answer was added
pub record AddsNoAnswer (s t : Seating) : Type 0 where
  pub stays : Stays s t
  pub answers : t.answers ≡ s.answers

-- the operation is the last of these, which are neither the answers nor those and then the work's operation
pub record IsStranger (did : Did) (work : Work) (dids answers : List Did) : Type 0 where
  pub last : last_or None (map Some dids) ≡ Some did
  pub more : dids ≢ answers
  pub other : (own : Did) → Does own work → dids ≢ answers ++ own ∷ []

-- when each fault comes, and what it leaves; a seat that is as it was has taken no turn
abbrev pub Fails : SeatFault → Work → Seating → Seating → Type 0
Fails NoBlock work s t = (¬ IsHere s.shape work) × (t ≡ s)
Fails (Busy other) work s t = (s.strange ≡ None) × (s.pending ≡ Some other) × (other ≢ work) × (t ≡ s)
Fails NoMemory work s t = MayBegin work s × AddsNoAnswer s t × (t.pending ≡ Some work) × (t.strange ≡ None) × (t.seen ≡ s.seen)
Fails (Stranger did) work s t = ((s.strange ≡ Some did) × (t ≡ s)) ⊎ (MayBegin work s × AddsNoAnswer s t × (t.pending ≡ Some work) × (t.strange ≡ Some did) × IsStranger did work (answers_of t.seen s.core) s.answers × HasSeenHistory t)

-- which fault has to be answered, by what the seat shows before the call; `Fails` then leaves the seat as it was, its count of turns too
pub record RefusedAtOnce (work : Work) (s : Seating) (answered : SeatFault → Type 0) : Type 0 where
  pub outside : ¬ IsHere s.shape work → answered NoBlock
  pub stranger : (did : Did) → IsHere s.shape work → s.strange ≡ Some did → answered (Stranger did)
  pub busy : (other : Work) → IsHere s.shape work → s.strange ≡ None → s.pending ≡ Some other → other ≢ work → answered (Busy other)
