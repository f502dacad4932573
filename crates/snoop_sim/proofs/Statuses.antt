-- The statuses that the program ends with.
use Rattle.std.{proofs.Common.{◌≡◌, ◌<◌, ◌≤◌, Bool, true, false, List, Option, None, Some, ap, refl, arith}, specs.Prelude.Err}
use Rattle.clap.specs.Words.{Row, Text, subcommand_of}
use Rattle.snoop_trace.specs.Text.{BlamesReader}
use Rattle.snoop_trace.specs.declared.fault.TextFault.TheVariants as text
use Rattle.snoop_trace.specs.declared.fault.WriteFault.TheVariants as write
use Rattle.snoop_cores.specs.declared.fault.MakeFault.TheVariants as make
use Rattle.snoop_cores.specs.declared.fault.RunFault.TheVariants as run
use Rattle.snoop_cores.specs.declared.fault.SeatFault.TheVariants as seat
use Rattle.snoop_cores.specs.declared.fault.GatherFault.TheVariants as gathering
use Rattle.snoop_engine.specs.declared.fault.SimFault.{SimFault}
use Rattle.snoop_engine.specs.declared.fault.SimFault.TheVariants as sim
use Rattle.snoop_draw.specs.declared.fault.DrawFault.TheVariants as draw
use Rattle.snoop_lint.specs.declared.fault.LintFault.TheVariants as lint
use Rattle.snoop_sim.specs.declared.{fault.ThreadsFault.ThreadsFault, failure.Failure.{Failure, TheVariants.{CommandLine, Simulation, Threads, Lint, Drawing, NoCommand}}}
use Rattle.snoop_sim.specs.declared.fault.ThreadsFault.TheVariants as threads
use Rattle.snoop_sim.specs.{Asked.{BeginsNothing, HasNoTask}, Performed.IsFailedRead, Status.{status_of, status_of_fault, status_of_threads}}

fault_known : (fault : SimFault) → status_of_fault fault < 6
fault_known (sim.Text text.NoMemory) = omega arith
fault_known _ = omega arith

threads_known : (fault : ThreadsFault) → status_of_threads fault < 6
threads_known (threads.Text text.NoMemory) = omega arith
threads_known (threads.Make make.NoMemory) = omega arith
threads_known (threads.Run run.NoMemory) = omega arith
threads_known (threads.Seat seat.NoMemory) = omega arith
threads_known (threads.Gather gathering.NoMemory) = omega arith
threads_known (threads.Write write.NoMemory) = omega arith
threads_known _ = omega arith

-- they are below 6
pub status_known : (failure : Failure) → status_of failure < 6
status_known (Simulation fault) = fault_known fault
status_known (Threads fault) = threads_known fault
status_known (Lint lint.Read) = omega arith
status_known (Drawing (draw.Simulation fault)) = fault_known fault
status_known _ = omega arith

-- a failed read has the status 1
read_status : (failure : Failure) → (¬ IsFailedRead (Err failure) → ⊥) → status_of failure ≡ 1
read_status (Simulation (sim.Text text.Read)) failed = refl
read_status (Threads (threads.Text text.Read)) failed = refl
read_status (Lint lint.Read) failed = refl
read_status (Drawing (draw.Simulation (sim.Text text.Read))) failed = refl
read_status failure failed = absurd (failed (λ is. is))

-- so where a read has failed in the call, the status is 1
pub failed_read_status : (failure : Failure) (before after : Option Bool) → BlamesReader before after (IsFailedRead (Err failure))
    → before ≡ Some false → after ≡ Some true → status_of failure ≡ 1
failed_read_status failure before after blames old new = read_status failure (λ never. let none : after ≡ Some false = (blames old).1 never in cc)

-- where a command has no task, it is 2
no_task_status : (command : Option (Text × List Row)) (failure : Failure) → HasNoTask command failure → status_of failure ≡ 2
no_task_status None NoCommand has = refl
no_task_status None failure has = absurd has
no_task_status (Some command) (Simulation fault) has = absurd has.1.2
no_task_status (Some command) (Threads fault) has = absurd has.1.2
no_task_status (Some command) (Lint fault) has = absurd has.1.2
no_task_status (Some command) (Drawing fault) has = absurd has.1.2
no_task_status command failure has = refl

-- where nothing is begun, it is 2 or 3
pub refused_status : (words : List Text) (failure : Failure) → BeginsNothing words failure → (2 ≤ status_of failure) × (status_of failure < 4)
refused_status words (CommandLine error) refuses = (omega arith, omega arith)
refused_status words (Simulation fault) refuses = let three = ap status_of_fault refuses in (omega (arith, three), omega (arith, three))
refused_status words failure (app, snoop, (well, has)) =
    let two = no_task_status (subcommand_of app words) failure has in (omega (arith, two), omega (arith, two))

-- and no read has failed
pub refused_unread : (words : List Text) (failure : Failure) → BeginsNothing words failure → ¬ IsFailedRead (Err failure)
refused_unread words failure refuses failed =
    let one = read_status failure (λ never. never failed) in let two = (refused_status words failure refuses).0 in omega (arith, one, two)
