-- What a command is described as, once an option or a subcommand is added.
use Rattle.std.proofs.Common.{◌∙◌, ap, ap₂, ◌||◌}
use Rattle.clap.specs.{Words.{AddsArg, AddsSubcommand, App, Rule, app_of, with_rule, with_subcommand}, declared.builder.{arg.Arg.Arg, command.Command.Command}}
use Rattle.snoop_sim.specs.CommandLine.{Describes, DescribesOption, IsLocal}

pub adds_option : {old new : Command} {arg : Arg} {app : App} {rule : Rule}
    → Describes old app → DescribesOption arg rule → AddsArg old arg new → Describes new (with_rule app rule)
adds_option before option adds = record {
  local = adds.globals ∙ ap₂ (λ a b. a || b) before.local option.local;
  is = adds.shape option.local ∙ ap₂ with_rule before.is option.is;
}

pub adds_command : {old sub new : Command} {app : App}
    → Describes old app → IsLocal sub → AddsSubcommand old sub new → Describes new (with_subcommand app (app_of sub).top)
adds_command {sub = sub} before local adds = record {
  local = adds.globals ∙ ap₂ (λ a b. a || b) before.local local;
  is = adds.shape local ∙ ap (λ (a : App). with_subcommand a (app_of sub).top) before.is;
}
