use Rattle.snoop_engine.proofs.{Common.on_err, Gathering.{gathering_none, gathering_spilled}}
use Rattle.snoop_engine.proofs.WrittenLemmas.{writing_cut, writing_done, writing_more, writing_report_cut, writing_stop}
use Rattle.snoop_engine.proofs.steps.write_lines.Goals as goal

pub loop-step-init : goal.loop-step-init
loop-step-init g c =
    (gathering_none _ _ _ _ _ _ _ _ c.requires.reset c.requires.can_end tt c.new-chunk.ensures.items, λ none. none)

pub returns-in_err-outcome-clause-front : goal.returns-in_err-outcome-clause-front
returns-in_err-outcome-clause-front g c = on_err c.from_residual.result _ (writing_stop c.loop-step.invariant.0)

pub returns-in_err-push_line-clause-front : goal.returns-in_err-push_line-clause-front
returns-in_err-push_line-clause-front g c = on_err c.from_residual-in_err-push_line.result _ (writing_stop c.loop-step.invariant.0)

pub loop-step-preserved : goal.loop-step-preserved
loop-step-preserved g c =
    let far =
    writing_more c.loop-step.invariant.0 _ _ _ _ _ (rw c.in-Some.ensures.same at c.in_ok-outcome.ensures.goes) (c.in_ok-outcome.ensures.leads c.loop-step.course c.in-Some.ensures.found)
    c.in_ok-outcome.ensures.can_end c.in_ok-push_line.ensures.ok in
    (gathering_spilled far _ _ c.in_ok-spill.ensures.ok, λ none. (c.in_ok-spill.ensures.blamed (c.loop-step.invariant.1 none)).1 (λ failed. cc))

pub returns-in_err-spill-clause-front : goal.returns-in_err-spill-clause-front
returns-in_err-spill-clause-front g c =
    let far =
    writing_more c.loop-step.invariant.0 _ _ _ _ _ (rw c.in-Some.ensures.same at c.in_ok-outcome.ensures.goes) (c.in_ok-outcome.ensures.leads c.loop-step.course c.in-Some.ensures.found)
    c.in_ok-outcome.ensures.can_end c.in_ok-push_line.ensures.ok in
    on_err c.from_residual-in_err-spill.result _ (writing_cut far _ c.in_err-spill.ensures.front)

pub returns-in_err-write_whole-clause-front : goal.returns-in_err-write_whole-clause-front
returns-in_err-write_whole-clause-front g c =
    on_err c.from_residual-in_err-write_whole.result _ (writing_cut c.loop-step.invariant.0 _ (rw c.deref.ensures.value at c.in_err-write_whole.ensures.front))

pub returns-in_err-write_report-clause-front : goal.returns-in_err-write_report-clause-front
returns-in_err-write_report-clause-front g c =
    on_err c.from_residual-in_err-write_report.result _
    (writing_report_cut c.loop-step.invariant.0 (rw c.in_default.is at c.find.ensures.end) _ _ (rw c.deref.ensures.value at c.in_ok-write_whole.ensures.ok) _ _
    (rw (c.machine.ensures, c.find.ensures.same) at c.log.ensures.shape.2) (rw (c.machine.ensures, c.find.ensures.same) at c.log.ensures.items) c.in_err-write_report.ensures.front)

pub returns-clause-ok : goal.returns-clause-ok
returns-clause-ok g c =
    writing_done c.loop-step.invariant.0 (rw c.in_default.is at c.find.ensures.end) _ _ (rw c.deref.ensures.value at c.in_ok-write_whole.ensures.ok) _ _
    (rw (c.machine.ensures, c.find.ensures.same) at c.log.ensures.shape.2) (rw (c.machine.ensures, c.find.ensures.same) at c.log.ensures.items) c.in_ok-write_report.ensures.ok
