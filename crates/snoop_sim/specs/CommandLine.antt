-- The command line that the program understands, as the crate `clap` describes one.
-- Source: this project's profile.
use Rattle.std.specs.{Prelude.{◌≡◌, ℕ, List, [], ◌∷◌, Option, None, Some, ⊤, ◌++◌, slice_index_or, codes, map, true, false, pos}, Borrow.Bor}
use Rattle.clap.specs.{Words.{App, Rule, Text, app_of, new_app, new_rule, rule_of, with_rule, with_subcommand}, declared.builder.arg.Arg.Arg}
use Rattle.clap.specs.declared.builder.{action.ArgAction.TheVariants.SetTrue, command.Command.{Command, TheViews.out-Command}}
use Rattle.clap.specs.declared.builder.value_parser.ValueParser.{ValueParser}
use Rattle.clap.specs.declared.builder.value_parser.ValueParser.TheVariants as parser
use Rattle.snoop_sim.specs.declared.options.{Group.{Group, TheVariants.{Protocol, Shape, Kind, Serial, SerialRun, Choice, States, Counts, Lint, Draw, Table}}, CommandSpec.CommandSpec, OptionSpec.OptionSpec, Takes.Takes}
use Rattle.snoop_sim.specs.declared.options.Takes.TheVariants as takes

-- a number of 32 bits
abbrev pub u32_parser : ValueParser
u32_parser = parser.Signed (pos 0) (pos 4294967295)

-- a number of 64 bits
abbrev pub u64_parser : ValueParser
u64_parser = parser.Unsigned 0 18446744073709551615

-- an option that may be left out
abbrev pub optional_rule : Text → ValueParser → Rule
optional_rule name values = record (new_rule name) { long = Some name; parser = Some values }

-- an option with its default
abbrev pub option_rule : Text → Text → ValueParser → Rule
option_rule name default values = record (optional_rule name values) { defaults = default ∷ [] }

-- a flag
abbrev pub flag_rule : Text → Rule
flag_rule name = record (new_rule name) { long = Some name; action = Some SetTrue }

-- the names that an option takes
abbrev pub Names : Type 0
Names = Bor (List (Bor (List ℕ)))

-- they are these
abbrev pub AreNames : List Text → Names → Type 0
AreNames texts names = map (λ name. name.now) names.now ≡ texts

-- the names that the options of a group take: those of the first option that takes names, and those of the second; where none takes names, any list will do
abbrev pub AreNamesOf : Group → Names → Names → Type 0
AreNamesOf Protocol protocols more = AreNames (codes "msi" ∷ codes "mesi" ∷ []) protocols
AreNamesOf Kind kinds more = AreNames (codes "steps" ∷ codes "rows" ∷ []) kinds
AreNamesOf States forms more = AreNames (codes "text" ∷ codes "csv" ∷ []) forms
AreNamesOf Counts groupings more = AreNames (codes "row" ∷ codes "core" ∷ codes "block" ∷ codes "word" ∷ []) groupings
AreNamesOf Draw forms themes = AreNames (codes "text" ∷ codes "svg" ∷ codes "html" ∷ []) forms × AreNames (codes "auto" ∷ codes "light" ∷ codes "dark" ∷ []) themes
AreNamesOf Table tables layouts = AreNames (codes "cache" ∷ codes "memory" ∷ []) tables × AreNames (codes "rows" ∷ codes "matrix" ∷ []) layouts
AreNamesOf Shape names more = ⊤
AreNamesOf Serial names more = ⊤
AreNamesOf SerialRun names more = ⊤
AreNamesOf Choice names more = ⊤
AreNamesOf Lint names more = ⊤

-- the options of a group, in this order; a protocol is named in either case, and the two kinds of `--serial` differ in their help alone
abbrev pub rules_of : Group → Names → Names → List Rule
rules_of Protocol protocols more = record (option_rule (codes "protocol") (codes "msi") (parser.Names protocols)) { ignore_case = true } ∷ []
rules_of Shape names more = option_rule (codes "cores") (codes "2") u32_parser ∷ option_rule (codes "blocks") (codes "4") u32_parser
    ∷ option_rule (codes "block-bytes") (codes "64") u32_parser ∷ option_rule (codes "words") (codes "1") u32_parser ∷ []
rules_of Kind kinds more = option_rule (codes "of") (codes "steps") (parser.Names kinds) ∷ []
rules_of Serial names more = flag_rule (codes "serial") ∷ []
rules_of SerialRun names more = flag_rule (codes "serial") ∷ []
rules_of Choice names more = optional_rule (codes "block") u32_parser ∷ option_rule (codes "from") (codes "1") u64_parser ∷ optional_rule (codes "to") u64_parser ∷ []
rules_of States forms more = option_rule (codes "as") (codes "text") (parser.Names forms) ∷ []
rules_of Counts groupings more = optional_rule (codes "by") (parser.Names groupings) ∷ optional_rule (codes "top") u32_parser ∷ optional_rule (codes "every") u64_parser ∷ []
rules_of Lint names more = option_rule (codes "most") (codes "20") u64_parser ∷ []
rules_of Draw forms themes = option_rule (codes "as") (codes "text") (parser.Names forms) ∷ flag_rule (codes "ascii") ∷ optional_rule (codes "theme") (parser.Names themes)
    ∷ optional_rule (codes "shown") u64_parser ∷ []
rules_of Table tables layouts = option_rule (codes "which") (codes "cache") (parser.Names tables) ∷ option_rule (codes "as") (codes "rows") (parser.Names layouts) ∷ []

-- a command with these options too, in this order
abbrev pub with_rules : App → List Rule → App
with_rules app [] = app
with_rules app (rule ∷ rules) = with_rules (with_rule app rule) rules

-- a command with the options of these groups too, in this order, whatever lists their names are in
abbrev pub Extends : App → List Group → App → Type 0
Extends app [] new = new ≡ app
Extends app (group ∷ groups) new = (names more : Names) × AreNamesOf group names more × Extends (with_rules app (rules_of group names more)) groups new

-- a row of the table of commands: a name, and the groups of its options
abbrev pub CommandRow : Type 0
CommandRow = Text × List Group

-- this is the command, as `clap` describes it
abbrev pub IsCommand : CommandRow → App → Type 0
IsCommand (name, groups) = Extends (new_app name) groups

-- a program with these commands too, in this order
abbrev pub Adds : App → List CommandRow → App → Type 0
Adds app [] new = new ≡ app
Adds app (row ∷ rows) new = (command : App) × IsCommand row command × Adds (with_subcommand app command.top) rows new

-- the program before its commands
abbrev pub top_app : App
top_app = let new = new_app (codes "snoop") in record new { top = record new.top { has_version = true; subcommand_required = true } }

-- the program's commands
abbrev pub commands : List CommandRow
commands = (codes "steps", Protocol ∷ Shape ∷ []) ∷ (codes "run", Protocol ∷ Shape ∷ SerialRun ∷ []) ∷ (codes "threads", Protocol ∷ Shape ∷ [])
    ∷ (codes "states", Protocol ∷ Shape ∷ Kind ∷ Serial ∷ States ∷ Choice ∷ []) ∷ (codes "counts", Protocol ∷ Shape ∷ Kind ∷ Serial ∷ Counts ∷ [])
    ∷ (codes "lint", Protocol ∷ Shape ∷ Kind ∷ Lint ∷ []) ∷ (codes "draw", Protocol ∷ Shape ∷ Kind ∷ Serial ∷ Draw ∷ Choice ∷ [])
    ∷ (codes "table", Protocol ∷ Table ∷ []) ∷ []

-- `clap`'s description of the program
abbrev pub IsSnoop : App → Type 0
IsSnoop = Adds top_app commands

-- no option of the command is one of its subcommands' too
abbrev pub IsLocal : Command → Type 0
IsLocal command = (out-Command command).has_globals ≡ false

-- a command whose options no subcommand has too, and its description
pub record Describes (command : Command) (app : App) : Type 0 where
  pub local : IsLocal command
  pub is : app_of command ≡ app

-- an option that no subcommand has too, and its description
pub record DescribesOption (arg : Arg) (rule : Rule) : Type 0 where
  pub local : arg.global ≡ false
  pub is : rule_of arg ≡ rule

-- What follows is about the code's table, and is no part of `IsSnoop`.

-- a command of the code's table
abbrev pub command_said : CommandSpec → CommandRow
command_said command = (command.name.now, command.groups.now)

-- an option that takes such values
abbrev pub taking : Takes → Rule → Rule
taking takes.Nothing rule = record rule { action = Some SetTrue }
taking takes.U32 rule = record rule { parser = Some u32_parser }
taking takes.U64 rule = record rule { parser = Some u64_parser }
taking (takes.OneOf names) rule = record rule { parser = Some (parser.Names names) }
taking (takes.OneOfAnyCase names) rule = record rule { parser = Some (parser.Names names); ignore_case = true }

-- the values that an option has where it is not given
abbrev pub defaults_of : Option (Bor (List ℕ)) → List Text
defaults_of None = []
defaults_of (Some value) = value.now ∷ []

-- an option of the code's table, as `clap` describes it
abbrev pub rule_said : OptionSpec → Rule
rule_said option = taking option.takes (record (new_rule option.name.now) { long = Some option.name.now; defaults = defaults_of option.default })

-- the lists of names that options take, in this order
abbrev pub lists_of : List OptionSpec → List Names
lists_of [] = []
lists_of (option ∷ options) = list_of option.takes ++ lists_of options
  where
    list_of : Takes → List Names
    list_of (takes.OneOf names) = names ∷ []
    list_of (takes.OneOfAnyCase names) = names ∷ []
    list_of values = []

-- the list at a place among them; where there is none, an empty one
abbrev pub names_at : List OptionSpec → ℕ → Names
names_at options place = slice_index_or (lists_of options) place (record { ref_ptr = (0, 0); now = [] })

-- these are the options of the group
pub record AreOptionsOf (group : Group) (options : List OptionSpec) : Type 0 where
  pub names : AreNamesOf group (names_at options 0) (names_at options 1)
  pub rules : map rule_said options ≡ rules_of group (names_at options 0) (names_at options 1)
