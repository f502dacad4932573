-- The status that the program ends with.
-- Source: this project's profile.
use Rattle.std.specs.Prelude.{ℕ}
use Rattle.snoop_trace.specs.declared.fault.TextFault.TheVariants as text
use Rattle.snoop_trace.specs.declared.fault.WriteFault.TheVariants as write
use Rattle.snoop_cores.specs.declared.fault.MakeFault.TheVariants as make
use Rattle.snoop_cores.specs.declared.fault.RunFault.TheVariants as run
use Rattle.snoop_cores.specs.declared.fault.SeatFault.TheVariants as seat
use Rattle.snoop_cores.specs.declared.fault.GatherFault.TheVariants as gathering
use Rattle.snoop_sim.specs.declared.{failure.Failure.Failure, fault.ThreadsFault.ThreadsFault}
use Rattle.snoop_sim.specs.declared.failure.Failure.TheVariants.{CommandLine, NoCommand, NotUtf8, Shape, BadBy, BadChoice, BadEvery, BadTop, BadSerial, Simulation, Threads, Lint, Drawing, Unchosen}
use Rattle.snoop_engine.specs.declared.fault.SimFault.{SimFault, TheVariants.{Text, NoMemory, Write}}
use Rattle.snoop_lint.specs.declared.fault.LintFault.{LintFault}
use Rattle.snoop_draw.specs.declared.fault.DrawFault.TheVariants as draw
use Rattle.snoop_lint.specs.declared.fault.LintFault.TheVariants as lint
use Rattle.snoop_sim.specs.declared.fault.ThreadsFault.TheVariants as threads

-- 1 for a refused text, 3 for out of memory, 4 for a failed write
abbrev pub status_of_fault : SimFault → ℕ
status_of_fault (Text text.NoMemory) = 3
status_of_fault (Text _) = 1
status_of_fault NoMemory = 3
status_of_fault Write = 4

-- the same for a simulation in threads, and 5 for what else the threads were refused
abbrev pub status_of_threads : ThreadsFault → ℕ
status_of_threads (threads.Text text.NoMemory) = 3
status_of_threads (threads.Text _) = 1
status_of_threads (threads.Make make.NoMemory) = 3
status_of_threads (threads.Run run.NoMemory) = 3
status_of_threads (threads.Seat seat.NoMemory) = 3
status_of_threads (threads.Gather gathering.NoMemory) = 3
status_of_threads (threads.Write write.NoMemory) = 3
status_of_threads (threads.Write write.Write) = 4
status_of_threads _ = 5

-- the same for what is said of a text
abbrev pub status_of_lint : LintFault → ℕ
status_of_lint lint.Read = 1
status_of_lint lint.NoMemory = 3
status_of_lint lint.Write = 4

-- 2 for the command line, the shape, a choice of what is shown, or a drawing that is too large; else that of the fault
abbrev pub status_of : Failure → ℕ
status_of (CommandLine error) = 2
status_of NoCommand = 2
status_of NotUtf8 = 2
status_of (Shape fault) = 2
status_of BadBy = 2
status_of BadTop = 2
status_of BadEvery = 2
status_of BadSerial = 2
status_of BadChoice = 2
status_of (Simulation fault) = status_of_fault fault
status_of (Threads fault) = status_of_threads fault
status_of (Lint fault) = status_of_lint fault
status_of (Drawing (draw.Simulation fault)) = status_of_fault fault
status_of (Drawing draw.TooLarge) = 2
status_of (Unchosen fault) = 2
