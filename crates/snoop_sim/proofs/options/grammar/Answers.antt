use Rattle.std.proofs.Common.{rules, ◌≡◌, ◌∙◌, ap, subst, sym, map, true}
use Rattle.std.proofs.lemmas.List.{drop_all, drop_more}
use Rattle.clap.specs.{Words.{App, app_of, with_subcommand}, Simple.app_of_fields}
use Rattle.snoop_sim.{specs.CommandLine.{Adds, Describes, command_said, commands, top_app}, proofs.CommandLineLemmas.{adds_command}}
use Rattle.snoop_sim.proofs.options.grammar.Goals as goal

pub loop-command-init : goal.loop-command-init
loop-command-init c =
    let set = rw (c.after_help.ensures, c.about.ensures, c.version.ensures, c.in_ok-bin_name.ensures.0) at c.subcommand_required-snoop.ensures in
    let top : Describes c.subcommand_required-snoop.result top_app = record {
      local = ap (λ f. f.has_globals) set ∙ c.new.ensures.local;
      is = ap app_of_fields set ∙ ap (λ (a : App). record a { top = record a.top { has_version = true; subcommand_required = true } }) c.new.ensures.app;
    } in
    (top_app, top, λ new adds. adds)

pub loop-command-preserved : goal.loop-command-preserved
loop-command-preserved c = let (app, before, all) = c.loop-command.invariant in (
  with_subcommand app _,
  adds_command before c.in_ok-build.ensures.0 c.in_ok-snoop.ensures,
  λ new adds. all new
      (subst (λ left. Adds app (map command_said left) new) (sym (drop_more c.as_slice-command-items.result.now c.loop-command.command-index _ c.loop-command-test.true))
      (_, c.in_ok-build.ensures.1, adds)),
)

pub returns : goal.returns
returns c = let (app, before, all) = c.loop-command.invariant in
    let same : map command_said c.as_slice-command-items.result.now ≡ commands = search rules in
    subst (λ said. Adds top_app said (app_of c.loop-command.snoop)) same (all _ (subst (λ left. Adds app (map command_said left) (app_of c.loop-command.snoop))
    (sym (drop_all c.loop-command.command-index c.as_slice-command-items.result.now c.loop-command-test.false)) before.is))
