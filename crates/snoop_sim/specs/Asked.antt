-- What the words of a command line ask for, and why nothing is begun for them.
-- Source: this project's profile.
use Rattle.std.specs.Prelude.{⊤, ◌≡◌, ◌≢◌, ◌⊎◌, true, false, List, [], Option, Some, None, Ok, Err, codes}
use Rattle.clap.specs.{Words.{App, IsAmong, Row, Text, fault_of, kind_of, subcommand_of}, declared.error.kind.ErrorKind.ErrorKind}
use Rattle.clap.specs.declared.error.kind.ErrorKind.TheVariants.{DisplayHelp, DisplayVersion}
use Rattle.snoop_trace.specs.{Extent.Extent, declared.protocol.Protocol.Protocol}
use Rattle.snoop_sim.specs.{CommandLine.IsSnoop, declared.{failure.Failure.Failure, options.Task.Task}}
use Rattle.snoop_sim.specs.Options.{IsChoiceOf, IsGroupingOf, IsInputOf, IsLongOf, IsPaperOf, IsShapeOf, HasNoGrouping, MisplacesPaper, MisplacesSerial, asks_serial, charset_named, kind_named, layout_named, protocol_named, says, which_named}
use Rattle.snoop_engine.specs.declared.{fault.SimFault.TheVariants.NoMemory, input.Input.Input}
use Rattle.snoop_svg.specs.declared.paper.Paper.{Paper}
use Rattle.snoop_sim.specs.declared.failure.Failure.TheVariants.{BadBy, BadChoice, BadEvery, BadSerial, BadTop, CommandLine, NoCommand, Shape, Simulation, Unchosen}
use Rattle.snoop_sim.specs.declared.options.Task.TheVariants.{Help, Table, Steps, Run, Serial, Threads, Counts, Lint, States, StateFields, Draw, DrawSvg}

-- the protocol and the shape that the options name
abbrev pub IsMachineOf : List Row → Protocol → Extent → Type 0
IsMachineOf options protocol shape = (protocol ≡ protocol_named options) × IsShapeOf options (Ok shape)

-- the task of a command with its options
abbrev pub IsTaskOf : Text × List Row → Task → Type 0
IsTaskOf command (Help help) = ⊥
IsTaskOf (name, options) (Table protocol which layout) = (name ≡ codes "table") × (protocol ≡ protocol_named options) × (which ≡ which_named options) × (layout ≡ layout_named options)
IsTaskOf (name, options) (Steps protocol shape) = (name ≡ codes "steps") × IsMachineOf options protocol shape
IsTaskOf (name, options) (Run protocol shape) = (name ≡ codes "run") × IsMachineOf options protocol shape × (asks_serial options ≡ false)
IsTaskOf (name, options) (Serial protocol shape) = (name ≡ codes "run") × IsMachineOf options protocol shape × (asks_serial options ≡ true)
IsTaskOf (name, options) (Threads protocol shape) = (name ≡ codes "threads") × IsMachineOf options protocol shape
IsTaskOf (name, options) (Counts protocol shape input grouping) = (name ≡ codes "counts") × IsMachineOf options protocol shape × IsInputOf options input × IsGroupingOf options grouping
IsTaskOf (name, options) (Lint protocol shape form most) = (name ≡ codes "lint") × IsMachineOf options protocol shape × (form ≡ kind_named options) × IsLongOf (codes "most") options most
IsTaskOf (name, options) (States protocol shape input choice) = (name ≡ codes "states") × IsMachineOf options protocol shape × IsInputOf options input × IsChoiceOf shape options (Ok choice)
    × (says false (codes "as") (codes "csv") options ≡ false)
IsTaskOf (name, options) (StateFields protocol shape input choice) = (name ≡ codes "states") × IsMachineOf options protocol shape × IsInputOf options input × IsChoiceOf shape options (Ok choice)
    × (says false (codes "as") (codes "csv") options ≡ true)
IsTaskOf (name, options) (Draw protocol shape input charset choice) = (name ≡ codes "draw") × IsMachineOf options protocol shape × IsInputOf options input × IsPaperOf options None × (charset ≡ charset_named options) × IsChoiceOf shape options (Ok choice)
IsTaskOf (name, options) (DrawSvg protocol shape input choice paper) = (name ≡ codes "draw") × IsMachineOf options protocol shape × IsInputOf options input × IsPaperOf options (Some paper) × IsChoiceOf shape options (Ok choice)

-- the command that was named has this task
abbrev pub HasTask : Option (Text × List Row) → Task → Type 0
HasTask None task = ⊥
HasTask (Some command) task = IsTaskOf command task

-- a command that shows a run of steps or of rows
abbrev pub IsViewer : Text → Type 0
IsViewer name = (name ≡ codes "states") ⊎ (name ≡ codes "counts") ⊎ (name ≡ codes "draw")

-- it is told of which of them the text is
abbrev pub ReadsInput : List Row → Type 0
ReadsInput options = (input : Input) × IsInputOf options input

-- and, for a drawing, whether it is a text or what else it is
abbrev pub HasPaper : List Row → Type 0
HasPaper options = (paper : Option Paper) × IsPaperOf options paper

-- nothing is made of a text for a command: no command that reads a text has this name, or one of its options is refused
abbrev pub MakesNothing : Text → List Row → Extent → Failure → Type 0
MakesNothing name options shape NoCommand = (name ≢ codes "steps") × (name ≢ codes "run") × (name ≢ codes "threads") × (name ≢ codes "states") × (name ≢ codes "counts")
    × (name ≢ codes "lint") × (name ≢ codes "draw")
MakesNothing name options shape BadSerial = IsViewer name × MisplacesSerial options
MakesNothing name options shape (Unchosen fault) = ((name ≡ codes "states") ⊎ ((name ≡ codes "draw") × HasPaper options)) × ReadsInput options × IsChoiceOf shape options (Err fault)
MakesNothing name options shape BadChoice = (name ≡ codes "draw") × ReadsInput options × MisplacesPaper options
MakesNothing name options shape BadBy = (name ≡ codes "counts") × ReadsInput options × HasNoGrouping options BadBy
MakesNothing name options shape BadTop = (name ≡ codes "counts") × ReadsInput options × HasNoGrouping options BadTop
MakesNothing name options shape BadEvery = (name ≡ codes "counts") × ReadsInput options × HasNoGrouping options BadEvery
MakesNothing name options shape failure = ⊥

-- the command that was named has no task: its shape is refused, or nothing is made of a text for it
abbrev pub HasNoTask : Option (Text × List Row) → Failure → Type 0
HasNoTask None NoCommand = ⊤
HasNoTask None failure = ⊥
HasNoTask (Some (name, options)) (Shape fault) = (name ≢ codes "table") × IsShapeOf options (Err fault)
HasNoTask (Some (name, options)) failure = (name ≢ codes "table") × ((shape : Extent) × IsShapeOf options (Ok shape) × MakesNothing name options shape failure)

-- the text is that of help or of the version
abbrev pub IsShown : ErrorKind → Type 0
IsShown kind = (kind ≡ DisplayHelp) ⊎ (kind ≡ DisplayVersion)

-- something holds of the program's command line, as `clap` describes it
abbrev pub ByCommandLine : (App → Type 0) → Type 0
ByCommandLine Said = (app : App) × IsSnoop app × Said app

-- `clap` finds no fault in the words, and something holds of the command that they name
abbrev pub NamesCommand : List Text → (Option (Text × List Row) → Type 0) → Type 0
NamesCommand words Said = ByCommandLine (λ app. (fault_of app words ≡ []) × Said (subcommand_of app words))

-- `clap` answers the words with an error of this kind: a mistake in them, or the help or version that they ask for
abbrev pub StopsAt : List Text → ErrorKind → Type 0
StopsAt words kind = ByCommandLine (λ app. IsAmong kind (fault_of app words))

-- the words, the first of which is the program's own name, ask for the task: that of their command, or help or the version
abbrev pub AsksFor : List Text → Task → Type 0
AsksFor words (Help help) = StopsAt words (kind_of help) × IsShown (kind_of help)
AsksFor words task = NamesCommand words (λ command. HasTask command task)

-- nothing is begun for the words: there is a mistake in them, their command has no task, or there is no memory to read them
abbrev pub BeginsNothing : List Text → Failure → Type 0
BeginsNothing words (CommandLine error) = StopsAt words (kind_of error) × ¬ IsShown (kind_of error)
BeginsNothing words (Simulation fault) = fault ≡ NoMemory
BeginsNothing words failure = NamesCommand words (λ command. HasNoTask command failure)
