use Rattle.std.proofs.{Common.{rules, subst, sym, map, drop, ◌+◌}, lemmas.List.{drop_all, drop_more}}
use Rattle.clap.specs.Words.{app_of, new_app, with_rule}
use Rattle.snoop_sim.{specs.CommandLine.{Describes, Extends, rule_said, with_rules}, proofs.CommandLineLemmas.{adds_option}}
use Rattle.snoop_sim.proofs.options.CommandSpec.build.Goals as goal

pub loop-group-init : goal.loop-group-init
loop-group-init c =
    let start : Describes c.after_help-command.result (new_app c.args.self.now.name.now) = search rules in
    (new_app c.args.self.now.name.now, start, λ new extends. extends)

pub loop-option-init : goal.loop-option-init
loop-option-init c = let (app, before, all) = c.loop-group.invariant in
    let options = c.options-option-items.ensures in (
      app,
      before,
      λ new extends. all new (subst (λ groups. Extends app groups new) (sym (drop_more c.args.self.now.groups.now c.loop-group.group-index _ c.loop-group-test.true))
          (_, _, options.names, subst (λ rules. Extends (with_rules app rules) (drop (c.loop-group.group-index + 1) c.args.self.now.groups.now) new) options.rules extends)),
    )

pub loop-option-preserved : goal.loop-option-preserved
loop-option-preserved c = let (app, before, all) = c.loop-option.invariant in (
  with_rule app _,
  adds_option before c.build.ensures c.in_ok-command.ensures,
  λ new extends. all new
      (subst (λ left. Extends (with_rules app (map rule_said left)) (drop (c.loop-group.group-index + 1) c.args.self.now.groups.now) new)
      (sym (drop_more c.options-option-items.result.now c.loop-option.option-index _ c.loop-option-test.true)) extends),
)

pub loop-group-preserved : goal.loop-group-preserved
loop-group-preserved c = let (app, before, all) = c.loop-option.invariant in (
  app,
  before,
  λ new extends. all new
      (subst (λ left. Extends (with_rules app (map rule_said left)) (drop (c.loop-group.group-index + 1) c.args.self.now.groups.now) new)
      (sym (drop_all c.loop-option.option-index c.options-option-items.result.now c.loop-option-test.false)) extends),
)

pub returns : goal.returns
returns c = let (app, before, all) = c.loop-group.invariant in
    (before.local, all _ (subst (λ groups. Extends app groups (app_of c.loop-group.command)) (sym (drop_all c.loop-group.group-index c.args.self.now.groups.now c.loop-group-test.false)) before.is))
