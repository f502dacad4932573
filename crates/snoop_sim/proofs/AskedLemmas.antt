-- What the words ask for, by what `clap` answers to them.
use Rattle.std.proofs.{Common.{◌≡◌, ◌≢◌, ◌⊎◌, ⊎_elim, ◌∙◌, subst, sym, refl, inl, inr, true, List, [], Option, Some}, lemmas.Bool.and_parts}
use Rattle.clap.specs.Words.{App, HasKind, HasMatchesOf, IsAmong, Row, Text, fault_of, is_simple_and_free, kind_of, subcommand_rows_of}
use Rattle.clap.specs.declared.error.{Error.Error, kind.ErrorKind.{ErrorKind, TheVariants.{DisplayHelp, DisplayVersion, OutOfMemory}}}
use Rattle.clap.{specs.declared.parser.matches.ArgMatches.ArgMatches, proofs.OnLiterals.clap_on_literals}
use Rattle.snoop_sim.specs.{Asked.{AsksFor, BeginsNothing, HasNoTask, HasTask, IsShown, IsTaskOf, NamesCommand, StopsAt}, CommandLine.IsSnoop}
use Rattle.snoop_engine.specs.declared.fault.SimFault.TheVariants.{NoMemory}
use Rattle.snoop_sim.specs.declared.{failure.Failure.{Failure, TheVariants.{CommandLine, Simulation}}, options.Task.{Task, TheVariants.Help}}

-- `clap` says what it finds in the words of such a command line, whatever lists the names are in, and of which kinds its errors are
is_free : (app : App) → IsSnoop app → is_simple_and_free app ≡ true
unfolding clap_on_literals
is_free app (_, (_, _, _, (_, _, _, a)), (_, (_, _, _, (_, _, _, (_, _, _, b))), (_, (_, _, _, (_, _, _, c)), (_, (_, _, _, (_, _, _, (_, _, _, (_, _, _, (_, _, _, (_, _, _, d)))))), (_, (_, _, _, (_, _, _, (_, _, _, (_, _, _, (_, _, _, e))))), (_, (_, _, _, (_, _, _, (_, _, _, (_, _, _, f)))), (_, (_, _, _, (_, _, _, (_, _, _, (_, _, _, (_, _, _, (_, _, _, g)))))), (_, (_, _, _, (_, _, _, h)), is)))))))) =
    rw (is, a, b, c, d, e, f, g, h) refl

-- what is no mistake is help or the version
pub shown : (kind : ErrorKind) → (((kind ≢ DisplayHelp) × (kind ≢ DisplayVersion)) → ⊥) → IsShown kind
shown DisplayHelp no_mistake = inl refl
shown DisplayVersion no_mistake = inr refl
shown kind no_mistake = absurd (no_mistake ((λ e. cc), (λ e. cc)))

not_memory : IsShown OutOfMemory → ⊥
not_memory (inl is) = cc
not_memory (inr is) = cc

module _ (app : App) (words : List Text) (snoop : IsSnoop app) where
  free : is_simple_and_free app ≡ true
  free = is_free app snoop

  -- the command that `clap` found is the one that the words name
  pub named : (command : Option (Text × List Row)) (matches : ArgMatches) → subcommand_rows_of matches ≡ command → HasMatchesOf app words matches
      → (is_simple_and_free app ≡ true → fault_of app words ≡ []) → (Said : Option (Text × List Row) → Type 0) → Said command → NamesCommand words Said
  named command matches met found well Said said = (app, snoop, (well free, subst Said (sym met ∙ (found (and_parts _ _ free).0).1) said))

  module _ (name : Text) (options : List Row) (names : (Said : Option (Text × List Row) → Type 0) → Said (Some (name, options)) → NamesCommand words Said) where
    -- the words ask for the task of that command
    pub asked : (task : Task) → IsTaskOf (name, options) task → AsksFor words task
    asked (Help help) has = absurd has
    asked task has = names (λ command. HasTask command task) has

    -- and are refused where it has none
    pub without_task : (failure : Failure) → HasNoTask (Some (name, options)) failure → BeginsNothing words failure
    without_task (CommandLine error) has = absurd has.1.2
    without_task (Simulation fault) has = absurd has.1.2
    without_task failure has = names (λ command. HasNoTask command failure) has

  -- an error that isn't out of memory is of a kind that the words give
  kind_given : (error : Error) → kind_of error ≢ OutOfMemory → (is_simple_and_free app ≡ true → HasKind (fault_of app words) error)
      → StopsAt words (kind_of error)
  kind_given error memory has = (app, snoop, among (has free))
    where
      among : HasKind (fault_of app words) error → IsAmong (kind_of error) (fault_of app words)
      among (inl is) = absurd (memory is)
      among (inr kind) = kind

  -- one that isn't shown on standard output refuses the words, or is out of memory
  pub refused : (error : Error) (failure : Failure) → (is_simple_and_free app ≡ true → HasKind (fault_of app words) error)
      → (kind_of error ≢ DisplayHelp) × (kind_of error ≢ DisplayVersion)
      → ((kind_of error ≡ OutOfMemory) × (failure ≡ Simulation NoMemory)) ⊎ ((kind_of error ≢ OutOfMemory) × (failure ≡ CommandLine error))
      → BeginsNothing words failure
  refused error failure has mistake (inl (kind, is)) = subst (BeginsNothing words) (sym is) refl
  refused error failure has mistake (inr (kind, is)) = subst (BeginsNothing words) (sym is) (kind_given error kind has, ⊎_elim mistake.0 mistake.1)

  -- and for help the words ask
  pub help_asked : (help : Error) → (is_simple_and_free app ≡ true → HasKind (fault_of app words) help) → IsShown (kind_of help) → AsksFor words (Help help)
  help_asked help has is_shown = (kind_given help (λ memory. not_memory (subst IsShown memory is_shown)) has, is_shown)
