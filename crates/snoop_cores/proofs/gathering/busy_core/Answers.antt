use Rattle.snoop_cores.proofs.Common.{arith, IsFree, refl, sym, ◌∙◌}
use borrow.Author.Count.{below_more}
use Rattle.snoop_cores.proofs.gathering.busy_core.Goals as goal

pub loop-core-preserved : goal.loop-core-preserved
loop-core-preserved c =
    below_more (IsFree c.args.bench.now c.args.seats.now) c.loop-core.core c.loop-core.invariant
    (sym c.work.ensures ∙ grind (arith, c.is_some.ensures, c.if-is_some.false), c.if-not-is_idle.ensures.sound refl)

pub returns-clause-none : goal.returns-clause-none
returns-clause-none c =
    let past = rw (c.cores-core-end.ensures.value, c.shape.ensures) at c.loop-core-test.false in
    λ k lt. c.loop-core.invariant k (omega (arith, past, lt))
