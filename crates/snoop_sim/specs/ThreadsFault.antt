-- The faults of a simulation in threads.
-- Source: this project's profile.
use Rattle.std.specs.Prelude.{◌≡◌, ℕ, ⊤, List, take, All, Option, Some, None, slice_get}
use Rattle.snoop_cores.specs.declared.fault.RunFault.TheVariants as run
use Rattle.snoop_cores.specs.declared.{fault.SeatFault.SeatFault, stop.Stop.{Stop, TheVariants.Fault}}
use Rattle.snoop_cores.specs.declared.fault.SeatFault.TheVariants as seat
use Rattle.snoop_sim.specs.declared.fault.ThreadsFault.{ThreadsFault, TheVariants.{Text, Write, Run, Seat}}

-- the fault is that of the first seat that stopped, which was refused a row
pub record IsOfFirstStop (stops : List (Option Stop)) (fault : ThreadsFault) : Type 0 where
  pub place : ℕ
  pub number : ℕ
  pub refused : SeatFault
  pub there : slice_get stops place ≡ Some (Some (Fault number refused))
  pub before : All (λ stop. stop ≡ None) (take place stops)
  pub is : fault ≡ Seat refused

-- a fault of the threads: never one of the text or the writer, nor a row without a seat, a block outside the shape or another operation that is pending, which new seats and rows within the shape rule out
abbrev pub IsOfThreads : ThreadsFault → Type 0
IsOfThreads (Text fault) = ⊥
IsOfThreads (Run (run.NoSeat core)) = ⊥
IsOfThreads (Seat seat.NoBlock) = ⊥
IsOfThreads (Seat (seat.Busy other)) = ⊥
IsOfThreads (Write fault) = ⊥
IsOfThreads _ = ⊤

-- a fault that comes before anything is written
abbrev pub IsBeforeWriting : ThreadsFault → Type 0
IsBeforeWriting (Write fault) = ⊥
IsBeforeWriting _ = ⊤
