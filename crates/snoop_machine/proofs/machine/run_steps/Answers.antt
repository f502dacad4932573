-- Steps in order keep the machine coherent.
use Rattle.snoop_machine.proofs.Common.{◌≡◌, ◌≤◌, ◌+◌, List, take, subst, arith, take_all, Step, stand, Standing, is_safe}
use Rattle.snoop_machine.proofs.{Runs.{answers, steps_stay, Going, has_run, goes_on}, machine.run_steps.Goals.{then-is_ok, else-is_ok}}
use Rattle.snoop_machine.proofs.machine.run_steps.Goals as goal

pub loop-step-preserved : goal.loop-step-preserved
loop-step-preserved c =
    let old : Standing = (stand c.machine.inside.parts) in
    let middle : Standing = (stand c.loop-step.machine-inside.parts) in
    let new : Standing = (stand c.step.new.self) in
    let few : c.loop-step.taken ≤ c.loop-step.step-index = c.loop-step.invariant.1 in
    let goes = answers middle new _ c.step.result c.step.ensures.taken c.step.ensures.refused c.step.ensures.full c.step.ensures.room c.step.ensures.lines in
    let more = goes_on old middle new c.args.steps.now c.loop-step.step-index _ c.loop-step.taken c.step.result c.loop-step-test.true c.loop-step.invariant.0 goes in
    elim c.if-is_ok.branch [
      | then-is_ok w ↦ rw w.taken-is (more (c.loop-step.taken + 1) (grind (arith, c.is_ok.ensures.value, w.if-is_ok.true)), omega arith)
      | else-is_ok w ↦ rw w.taken-is (more c.loop-step.taken (grind (arith, c.is_ok.ensures.value, w.if-is_ok.false)), omega arith)
    ]

pub returns-clause-safe : goal.returns-clause-safe
returns-clause-safe c = is_safe (stand c.loop-step.machine-inside.parts).situation c.loop-step.invariant.0.keeps

pub returns-clause-run : goal.returns-clause-run
returns-clause-run c =
    let new : Standing = (stand c.loop-step.machine-inside.parts) in
    let all : take c.loop-step.step-index c.args.steps.now ≡ c.args.steps.now = take_all _ _ c.loop-step-test.false in
    let so_far = subst (λ (l : List Step). Going (stand c.machine.inside.parts) l c.loop-step.taken new) all c.loop-step.invariant.0 in
    rw c.machine.view_is at (has_run (stand c.machine.inside.parts) new c.args.steps.now c.loop-step.taken c.machine.invariant.inductive so_far)

pub returns-clause-stays : goal.returns-clause-stays
returns-clause-stays c =
    let so_far = c.loop-step.invariant.0 in
    rw c.machine.view_is at (steps_stay (take c.loop-step.step-index c.args.steps.now) so_far.outcomes (stand c.machine.inside.parts) _ so_far.run)
