use Rattle.snoop_engine.proofs.Common.{◌≡◌, ◌++◌, ◌∷◌, [], List, max, sym, take, arith, take_more, Step, Ask, most_stored, stored}
use Rattle.snoop_trace.specs.declared.step.Op.TheVariants.{Load}
use Rattle.snoop_engine.proofs.widths.most_stored.Goals as goal

-- one step more
most_more : (steps : List Step) (step : Step) → most_stored (steps ++ step ∷ []) ≡ max (most_stored steps) (stored step)
most_more [] step = omega arith
most_more (first ∷ steps) step = rw (most_more steps step) (omega arith)

pub loop-step-preserved : goal.loop-step-preserved
loop-step-preserved c =
    let i = c.loop-step.step-index in
    let more : c.max-most.result ≡ max c.loop-step.most c.stored.result = grind (arith, c.max-most.ensures) in
    rw (more, c.loop-step.invariant, c.stored.ensures, take_more c.args.steps.now i (Ask 0 0 0 Load) c.loop-step-test.true) (sym (most_more (take i c.args.steps.now) _))
