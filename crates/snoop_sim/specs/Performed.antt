-- What the program leaves for what it was asked, and the status that it ends with.
-- Source: this project's profile.
use Rattle.std.specs.{Prelude.{⊤, ◌≡◌, ◌⊎◌, ℕ, Bool, true, List, Option, Result, Ok, Err, IfErr}, Int.NonZero.non_zero_u64_get, Io.KnownBytes.Appends}
use Rattle.snoop_trace.specs.{Extent.Extent, Output.AppendsFront, Text.BlamesReader, declared.{protocol.Protocol.Protocol, fault.TextFault.TheVariants.Read}}
use Rattle.snoop_rules.specs.{Matrix.matrix_text, TableText.table_text, declared.table_text.Which.Which}
use Rattle.snoop_model.specs.Pictures.Situation.{Situation}
use Rattle.clap.specs.Words.{Text}
use Rattle.snoop_sim.specs.{Asked.{AsksFor, BeginsNothing}, Threaded.SimulatesThreads, ThreadsFault.IsBeforeWriting, Status.status_of, declared.{failure.Failure.Failure, options.Task.Task}}
use Rattle.snoop_counts.specs.{ByBlock.counts_by_block, BySteps.counts_by_steps, ByWord.counts_by_word, CoreTable.counts_by_core}
use Rattle.snoop_engine.specs.{Counts.frames_counts_text, Frames.Frame, Simulated.Simulates, SimulatedRun.SimulatesRun, SimulatedSerial.SimulatesSerial, States.states_text}
use Rattle.snoop_engine.specs.{SimulatedView.SimulatesView, declared.fault.SimFault.SimFault}
use Rattle.snoop_draw.specs.Simulated.{Draws}
use Rattle.snoop_draw.specs.declared.fault.DrawFault.TheVariants as draw
use Rattle.snoop_lint.specs.Linted.{Lints}
use Rattle.snoop_lint.specs.declared.fault.LintFault.TheVariants.{Read as LintRead, Write as LintWrite}
use Rattle.snoop_states.specs.Whole.{states_table_text}
use Rattle.snoop_svg.specs.Simulated.{Draws as DrawsSvg}
use Rattle.snoop_engine.specs.declared.fault.SimFault.TheVariants.{Text as TextRefused, NoMemory, Write}
use Rattle.snoop_sim.specs.declared.fault.ThreadsFault.TheVariants.{Text as RowsRefused}
use Rattle.snoop_sim.specs.declared.failure.Failure.TheVariants.{Simulation, Threads as ThreadsFailure, Lint as LintFailure, Drawing}
use Rattle.snoop_sim.specs.declared.options.Grouping.{Grouping}
use Rattle.snoop_sim.specs.declared.options.Grouping.TheVariants as grouping
use Rattle.snoop_sim.specs.declared.options.Layout.{Layout}
use Rattle.snoop_sim.specs.declared.options.Layout.TheVariants as layout
use Rattle.snoop_sim.specs.declared.options.Task.TheVariants.{Help, Table, Steps, Run, Serial, Threads, Counts, Lint, States, StateFields, Draw, DrawSvg}

-- a text was written whole; or, out of memory, nothing; or, where a write failed, a beginning; there was none to refuse
abbrev pub WritesText : List ℕ → Result (Unit {0}) SimFault → Option (List ℕ) → Option (List ℕ) → Type 0
WritesText text (Ok u) old new = Appends old new text
WritesText text (Err (TextRefused fault)) old new = ⊥
WritesText text (Err NoMemory) old new = new ≡ old
WritesText text (Err Write) old new = AppendsFront old new text

-- a task ended as its work did: done, or failed with the fault of its work
abbrev pub EndsAs : {Fault : Type 0} → (Fault → Failure) → Result (Unit {0}) Failure → (Result (Unit {0}) Fault → Type 0) → Type 0
EndsAs failed (Ok u) Left = Left (Ok u)
EndsAs {Fault} failed (Err failure) Left = (fault : Fault) × (failure ≡ failed fault) × Left (Err fault)

-- a table by rows, or as a matrix
abbrev pub layout_text : Protocol → Which → Layout → List ℕ
layout_text protocol which layout.Rows = table_text protocol which
layout_text protocol which layout.Matrix = matrix_text protocol which

-- the counts of a run, as the grouping says
abbrev pub grouped_counts : Protocol → Extent → Grouping → List Frame → Situation → List ℕ
grouped_counts protocol shape grouping.Row = λ frames final. frames_counts_text protocol frames
grouped_counts protocol shape grouping.Core = counts_by_core shape
grouped_counts protocol shape (grouping.Block top) = counts_by_block shape top
grouped_counts protocol shape grouping.Word = counts_by_word shape
grouped_counts protocol shape (grouping.Steps every) = counts_by_steps (non_zero_u64_get every)

-- what each task leaves: the text of help, the table by rows or as a matrix, or what is made of the text
abbrev pub PerformsTask : Task → Option (List ℕ) → Result (Unit {0}) Failure → Option (List ℕ) → Option (List ℕ) → Type 0
PerformsTask (Help help) input ending old new = (text : List ℕ) × EndsAs Simulation ending (λ done. WritesText text done old new)
PerformsTask (Table protocol which layout) input ending old new = EndsAs Simulation ending (λ done. WritesText (layout_text protocol which layout) done old new)
PerformsTask (Steps protocol shape) text ending old new = EndsAs Simulation ending (λ done. Simulates protocol shape text done old new)
PerformsTask (Run protocol shape) text ending old new = EndsAs Simulation ending (λ done. SimulatesRun protocol shape text done old new)
PerformsTask (Serial protocol shape) text ending old new = EndsAs Simulation ending (λ done. SimulatesSerial protocol shape text done old new)
PerformsTask (Threads protocol shape) text ending old new = EndsAs ThreadsFailure ending (λ done. SimulatesThreads protocol shape text done old new)
PerformsTask (Counts protocol shape input grouping) text ending old new = EndsAs Simulation ending (λ done. SimulatesView protocol shape input (grouped_counts protocol shape grouping) text done old new)
PerformsTask (Lint protocol shape form most) text ending old new = EndsAs LintFailure ending (λ done. Lints form most protocol shape text done old new)
PerformsTask (States protocol shape input choice) text ending old new = EndsAs Simulation ending (λ done. SimulatesView protocol shape input (states_table_text protocol shape choice) text done old new)
PerformsTask (StateFields protocol shape input choice) text ending old new = EndsAs Simulation ending (λ done. SimulatesView protocol shape input (λ frames final. states_text shape choice frames) text done old new)
PerformsTask (Draw protocol shape input charset choice) text ending old new = EndsAs Drawing ending (λ done. Draws protocol shape input charset choice text done old new)
PerformsTask (DrawSvg protocol shape input choice paper) text ending old new = EndsAs Drawing ending (λ done. DrawsSvg protocol shape input choice paper text done old new)

-- the task that the words ask for was performed; or nothing was begun for them, and the writer stays as it was
abbrev pub LeavesOutput : List Text → Option (List ℕ) → Result (Unit {0}) Failure → Option (List ℕ) → Option (List ℕ) → Type 0 → Type 0
LeavesOutput words input ending old new stays = ((task : Task) × AsksFor words task × PerformsTask task input ending old new)
    ⊎ ((failure : Failure) × (ending ≡ Err failure) × BeginsNothing words failure × stays)

-- the failure comes before anything is written: not out of memory, where an engine has read its text and begun to write, nor a failed write
abbrev pub IsBeforeOutput : Failure → Type 0
IsBeforeOutput (Simulation NoMemory) = ⊥
IsBeforeOutput (Simulation Write) = ⊥
IsBeforeOutput (ThreadsFailure fault) = IsBeforeWriting fault
IsBeforeOutput (LintFailure LintWrite) = ⊥
IsBeforeOutput (Drawing (draw.Simulation NoMemory)) = ⊥
IsBeforeOutput (Drawing (draw.Simulation Write)) = ⊥
IsBeforeOutput failure = ⊤

-- the status of an ending
abbrev pub status_of_ending : Result (Unit {0}) Failure → ℕ
status_of_ending (Ok u) = 0
status_of_ending (Err failure) = status_of failure

-- the ending is that of a failed read
abbrev pub IsFailedRead : Result (Unit {0}) Failure → Type 0
IsFailedRead (Err (Simulation (TextRefused Read))) = ⊤
IsFailedRead (Err (ThreadsFailure (RowsRefused Read))) = ⊤
IsFailedRead (Err (LintFailure LintRead)) = ⊤
IsFailedRead (Err (Drawing (draw.Simulation (TextRefused Read)))) = ⊤
IsFailedRead ending = ⊥

-- the program, for these words and this input, ended with this status, and left this; whether its reader never fails, whether a read had failed before and after, and that its writer stays as it was
abbrev pub EndsWithStatus : List Text → Bool → Option Bool → Option Bool → Option (List ℕ) → ℕ → Option (List ℕ) → Option (List ℕ) → Type 0 → Type 0
EndsWithStatus words never_fails before after input status old new stays = (ending : Result (Unit {0}) Failure) × (status ≡ status_of_ending ending)
    × (never_fails ≡ true → ¬ IsFailedRead ending) × BlamesReader before after (IsFailedRead ending) × LeavesOutput words input ending old new stays
    × IfErr ending (λ failure. IsBeforeOutput failure → stays)
