-- From the threads' answers and the gathered log to the rows.
use Rattle.std.proofs.Common.{◌≡◌, ℕ, ◌<◌, ◌/◌, ◌==◌, List, [], ◌∷◌, ◌++◌, length, take, All, Option, Some, None, refl, sym, ap, subst, ◌∙◌, arith}
use Rattle.std.specs.{Prelude.{slice_index_or, IsSome, IfErr, MatchResult, OnOk, OnErr, Result, Ok, Err}, Io.KnownBytes.Appends, Result.IsErrAnd}
use Rattle.std.proofs.lemmas.{Bool.lt-ltb, List.Elements.{All-filter, All-from_get_or, All-get_or}, Option.{get_or_from_slice_get, slice_get_within}}
use Rattle.snoop_trace.{specs.{Extent.{Extent, IsWithinLimits}, Grammar.{block_at, IsRowWithin}, Text.steps_of}, proofs.WordPlaces.word_there}
use Rattle.snoop_trace.specs.{Output.{AppendsFront, IsReadableStep, text_of}, declared.{fault.WriteFault.WriteFault, step.{Row.Row, Step.Step}}}
use Rattle.snoop_trace.specs.declared.protocol.Protocol.{Protocol}
use Rattle.snoop_history.specs.{declared.items.{Did.Did, Item.Item}, History.answers_of}
use Rattle.snoop_cores.specs.{declared.{fault.{RunFault.RunFault, SeatFault.SeatFault}, stop.Stop.{Stop, TheVariants.Fault}}, Seats.{AreSeats, IsNew, Seating}}
use Rattle.snoop_cores.specs.declared.fault.RunFault.TheVariants as run
use Rattle.snoop_cores.specs.declared.fault.SeatFault.TheVariants as seat
use Rattle.snoop_cores.specs.{Rows.{AnswersRows, Leaves, Grows, FailsOn, IsRefused, IsServed, RanTo, RefusesRows, rows_of_core}, Joined.IsJoined}
use Rattle.snoop_engine.specs.SimulatedRun.{ReadsRows}
use Rattle.snoop_sim.specs.{Threaded.{SimulatesThreads, Threaded}, ThreadsFault.{IsOfThreads, IsOfFirstStop}, declared.fault.ThreadsFault.ThreadsFault}
use Rattle.snoop_sim.specs.declared.fault.ThreadsFault.TheVariants as threads

-- what stands where there is no seat
abbrev no_seat : Seating
no_seat =
    let none : Extent = record { cores = 0; blocks = 0; block_bytes = 0; words = 0 } in
    record { core = 0; shape = none; seen = []; answers = []; pending = None; strange = None; stop = None; turns = 0 }

-- a seat that did nothing before has done its rows: its answers, which are its core's operations, are theirs
answered_rows : (shape : Extent) (rows : List Row) (core : ℕ) (s t : Seating) (log : List Item) → IsNew core shape s → Grows (rows_of_core s.core rows) s t
    → answers_of log t.core ≡ t.answers → AnswersRows shape (rows_of_core core rows) (answers_of log core)
answered_rows shape rows core s t log new grows told =
    let all : t.answers ≡ grows.added.0 = grows.added.1 ∙ ap (λ (l : List Did). l ++ grows.added.0) new.answers in
    let logged : answers_of log core ≡ grows.added.0 = ap (answers_of log) (sym (grows.stays.core ∙ new.core_is)) ∙ told ∙ all in
    rw (logged, ← new.shape_is) (rw new.core_is at grows.added.2)

-- all seats have done their rows, and were gathered
pub threaded : (protocol : Protocol) (shape : Extent) (rows : List Row) (stops : List (Option Stop)) (old new : List Seating) (log : List Item) (steps : List Step)
    → AreSeats shape old → length stops ≡ length old → length new ≡ length old
    → ((i : ℕ) (d : Seating) → i < length old → RanTo (slice_index_or stops i None) rows (slice_index_or old i d) (slice_index_or new i d))
    → All (λ (stop : Option Stop). stop ≡ None) stops → IsJoined protocol shape new log steps → Threaded protocol shape rows steps
threaded protocol shape rows stops old new log steps fresh each same ran none joined =
    record {
      final = joined.at;
      taken = joined.taken;
      readable = joined.readable;
      quiet = joined.quiet;
      answered = λ core lt.
          let inside : core < length old = omega (arith, lt, fresh.0) in
          let done = subst (λ (stop : Option Stop). RanTo stop rows (slice_index_or old core no_seat) (slice_index_or new core no_seat))
          (All-get_or (λ (stop : Option Stop). stop ≡ None) stops core None (omega (arith, inside, each)) none) (ran core no_seat inside) in
          let told = All-get_or (λ (s : Seating). answers_of log s.core ≡ s.answers) new core no_seat (omega (arith, inside, same)) joined.joins.answered in
          rw (← joined.log_is) (answered_rows shape rows core _ _ log (fresh.1 core no_seat lt) done told);
    }

-- a row within the shape lies in a block of it
row_block : (shape : Extent) (row : Row) → IsRowWithin shape row → block_at shape row.address ≡ Some (row.address / shape.block_bytes)
row_block shape row within = rw (lt-ltb (row.address / shape.block_bytes) shape.blocks within.1) refl

-- where each core has a new seat, each row within the shape is served
row_served : (shape : Extent) (seats : List Seating) (row : Row) → AreSeats shape seats → IsRowWithin shape row → IsServed seats row
row_served shape seats row fresh within = record {
  has = (row.core, omega (arith, within.0, fresh.0), λ d. (fresh.1 row.core d within.0).core_is);
  within = All-from_get_or (λ (seat : Seating). seat.core ≡ row.core → IsSome (block_at seat.shape row.address)) seats no_seat
      (λ k lt same. rw ((fresh.1 k no_seat (omega (arith, lt, fresh.0))).shape_is, row_block shape row within) refl);
}

-- so rows within the shape are refused for memory alone
pub begun : (shape : Extent) (seats : List Seating) (rows : List Row) (fault : RunFault) → AreSeats shape seats → All (IsRowWithin shape) rows → RefusesRows seats rows fault → IsOfThreads (threads.Run fault)
begun shape seats rows run.NoMemory fresh within refuses = tt
begun shape seats rows (run.NoSeat core) fresh within refuses =
    let row : Row = refuses.0 in
    let there : slice_index_or rows refuses.1.place row ≡ row = refuses.1.there row in
    absurd (refuses.1.unserved (row_served shape seats row fresh (subst (IsRowWithin shape) there (All-get_or (IsRowWithin shape) rows refuses.1.place row refuses.1.inside within))))

-- a refused call, whose fault got a name of this crate
pub named : {A F : Type 0} (called : Result A F) (answer : Result A ThreadsFault) (name : F → ThreadsFault) (fault : ThreadsFault)
    → MatchResult called (λ a. answer ≡ Ok a) (λ f. IsErrAnd answer (λ e. e ≡ name f)) → answer ≡ Err fault → (f : F) × ((called ≡ Err f) × (fault ≡ name f))
named (Ok a) answer name fault cases is = absurd (let e : Ok a ≡ Err fault = sym cases ∙ is in cc)
named (Err f) (Ok a) name fault cases is = absurd cases
named (Err f) (Err e) name fault cases is = (f, (refl, let same : e ≡ fault = cc in sym same ∙ cases))

-- a fault that was turned into this one
pub turned : {A : Type 0} (answer : Result A ThreadsFault) (fault : ThreadsFault) → IsErrAnd answer (λ (f : ThreadsFault). f ≡ fault) → IsOfThreads fault → IfErr answer IsOfThreads
turned (Ok a) fault is of = tt
turned (Err f) fault is of = subst IsOfThreads (sym is) of

-- a seat that was new has nothing pending after its rows
idle_after : (rows : List Row) (s t : Seating) → s.pending ≡ None → Leaves rows s t → t.pending ≡ None
idle_after [] s t new leaves = ap (λ (x : Seating). x.pending) leaves ∙ new
idle_after (row ∷ rows) s t new leaves = leaves.pending

-- what a row within the shape, of a seat with nothing pending, is refused for
why_refused : (block : ℕ) (fault : SeatFault) (row : Row) (s t : Seating) → IsWithinLimits s.shape → block < s.shape.blocks → s.pending ≡ None → FailsOn (Some block) fault row s t → IsOfThreads (threads.Seat fault)
why_refused block seat.NoBlock row s t limits lt idle fails = absurd (fails.0 (lt, word_there s.shape row.address row.op limits))
why_refused block seat.NoMemory row s t limits lt idle fails = tt
why_refused block (seat.Busy other) row s t limits lt idle fails = absurd (let e : None ≡ Some other = sym idle ∙ fails.1 in cc)
why_refused block (seat.Stranger did) row s t limits lt idle fails = tt

-- what new seats' rows within the shape are refused for
row_refused : (shape : Extent) (core number : ℕ) (rows : List Row) (s t : Seating) (fault : SeatFault) → IsWithinLimits shape → IsNew core shape s → All (IsRowWithin shape) rows → IsRefused number fault (rows_of_core s.core rows) s t → IsOfThreads (threads.Seat fault)
row_refused shape core number rows s t fault limits new within refused =
    let own : List Row = rows_of_core s.core rows in
    let lt : number < length own = slice_get_within own number refused.row refused.there in
    let all : All (IsRowWithin shape) own = All-filter (λ (row : Row). row.core == s.core) (IsRowWithin shape) rows within in
    let inside : IsRowWithin shape refused.row = subst (IsRowWithin shape) (get_or_from_slice_get own number refused.row refused.row refused.there) (All-get_or (IsRowWithin shape) own number refused.row lt all) in
    let same : refused.between.shape ≡ shape = refused.grown.stays.shape ∙ new.shape_is in
    let at : block_at refused.between.shape refused.row.address ≡ Some (refused.row.address / shape.block_bytes) = ap (λ (e : Extent). block_at e refused.row.address) same ∙ row_block shape refused.row inside in
    why_refused (refused.row.address / shape.block_bytes) fault refused.row refused.between t (subst IsWithinLimits (sym same) limits)
    (subst (λ (e : Extent). refused.row.address / shape.block_bytes < e.blocks) (sym same) inside.1)
    (idle_after (take number own) s refused.between new.pending refused.grown.leaves)
    (subst (λ (o : Option ℕ). FailsOn o fault refused.row refused.between t) at refused.fails)

-- the fault of the first seat that stopped is one of threads
pub first_refused : (shape : Extent) (rows : List Row) (stops : List (Option Stop)) (old new : List Seating) (fault : ThreadsFault)
    → IsWithinLimits shape → AreSeats shape old → length stops ≡ length old → All (IsRowWithin shape) rows
    → ((i : ℕ) (d : Seating) → i < length old → RanTo (slice_index_or stops i None) rows (slice_index_or old i d) (slice_index_or new i d))
    → IsOfFirstStop stops fault → IsOfThreads fault
first_refused shape rows stops old new fault limits fresh each within ran first =
    let inside : first.place < length old = let lt = slice_get_within stops first.place (Some (Fault first.number first.refused)) first.there in omega (arith, lt, each) in
    let refused = subst (λ (o : Option Stop). RanTo o rows (slice_index_or old first.place no_seat) (slice_index_or new first.place no_seat))
    (get_or_from_slice_get stops first.place (Some (Fault first.number first.refused)) None first.there) (ran first.place no_seat inside) in
    rw first.is
    (row_refused shape first.place first.number rows _ _ first.refused limits (fresh.1 first.place no_seat (omega (arith, inside, fresh.0))) within refused)

-- the steps stand, and were written, or their writing broke off
pub steps_written : (protocol : Protocol) (shape : Extent) (input : Option (List ℕ)) (rows : List Row) (steps : List Step) (wrote : Result (Unit {0}) WriteFault) (answer : Result (Unit {0}) ThreadsFault) (old new : Option (List ℕ))
    → MatchResult wrote (λ u. answer ≡ Ok u) (λ f. IsErrAnd answer (λ e. e ≡ threads.Write f)) → ReadsRows shape input (Ok rows) → Threaded protocol shape rows steps
    → (All (IsReadableStep shape) steps → steps_of protocol shape (text_of protocol shape steps) ≡ Ok steps)
    → OnOk wrote (Appends old new (text_of protocol shape steps)) → OnErr wrote (AppendsFront old new (text_of protocol shape steps)) → SimulatesThreads protocol shape input answer old new
steps_written protocol shape input rows steps (Ok u) answer old new cases read stand again all front =
    subst (λ (x : Result (Unit {0}) ThreadsFault). SimulatesThreads protocol shape input x old new) (sym cases) (rows, (read, record { steps = steps; threaded = stand; again = again stand.readable; output = all }))
steps_written protocol shape input rows steps (Err f) (Ok u) old new cases read stand again all front = absurd cases
steps_written protocol shape input rows steps (Err f) (Err e) old new cases read stand again all front =
    subst (λ (x : ThreadsFault). SimulatesThreads protocol shape input (Err x) old new) (sym cases) (rows, (read, record { steps = steps; threaded = stand; again = again stand.readable; output = front }))
