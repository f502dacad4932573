use Rattle.std.proofs.Common.{arith}
use Rattle.snoop_trace.proofs.OutputLemmas.{batch_cut, batch_more, on_err}
use Rattle.snoop_trace.proofs.output.write_records.Goals as goal

pub returns-in_err-write_whole-clause-front : goal.returns-in_err-write_whole-clause-front
returns-in_err-write_whole-clause-front g c =
    let cut = rw (c.deref.ensures.value, c.in_ok-text.ensures) at c.in_err-write_whole.ensures.front in
    on_err c.from_residual-in_err-write_whole.result _ (batch_cut _ _ _ c.args.shape c.args.steps.now c.loop-at.at c.batch_end-end.result (omega (arith, c.batch_end-end.ensures.some)) c.loop-at.invariant.1 cut)

pub loop-at-preserved : goal.loop-at-preserved
loop-at-preserved g c =
    let more = rw (c.deref.ensures.value, c.in_ok-text.ensures) at c.in_ok-write_whole.ensures.ok in (
      c.batch_end-end.ensures.within,
      batch_more _ _ _ c.args.shape c.args.steps.now c.loop-at.at c.batch_end-end.result (omega (arith, c.batch_end-end.ensures.some)) c.loop-at.invariant.1 more,
      λ none. (c.in_ok-write_whole.ensures.blamed (c.loop-at.invariant.2 none)).1 (λ failed. cc),
    )
