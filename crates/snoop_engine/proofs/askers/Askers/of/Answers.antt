use Rattle.std.proofs.{Common.{ℕ, Bool, arith, sym, subst, take, take_all, ◌∙◌}, lemmas.List.Folds.list_any_more}
use Rattle.snoop_trace.specs.declared.step.{Op.TheVariants.Load, Step.TheVariants.Ask}
use Rattle.snoop_engine.{proofs.AskerLemmas.those_who_ask, specs.Askers.{AreSetsBy, asks_for, is_asker}}
use Rattle.snoop_engine.proofs.askers.Askers.of.Goals as goal

pub loop-step-preserved : goal.loop-step-preserved
loop-step-preserved c =
    let steps = c.args.steps.now in
    let i = c.loop-step.step-index in
    subst (λ (test : ℕ → ℕ → Bool). AreSetsBy c.args.shape test c.add.new.sets)
    (λ j block core. sym (list_any_more (asks_for block core) steps i (Ask 0 0 0 Load) c.loop-step-test.true) j)
    (c.add.ensures c.args.shape (is_asker (take i steps)) (omega (arith, c.within_limits.ensures)) c.loop-step.invariant)

pub returns : goal.returns
returns c =
    let steps = c.args.steps.now in
    let all = take_all c.loop-step.step-index steps (omega (arith, c.loop-step-test.false)) in
    rw c.cores.ensures.value (those_who_ask c.args.shape steps c.loop-step.sets (rw all at c.loop-step.invariant))
