use Rattle.snoop_trace.proofs.Common.{on_err_weaker, on_ok_weaker, steps_text}
use Rattle.snoop_trace.proofs.OutputLemmas.{appends_more, front_after, front_cut, on_err}
use Rattle.snoop_trace.proofs.output.write_steps.Goals as goal

pub returns-in_err-write_whole-clause-front : goal.returns-in_err-write_whole-clause-front
returns-in_err-write_whole-clause-front g c =
    let cut = rw (c.deref.ensures.value, c.in_ok-heading.ensures) at c.in_err-write_whole.ensures.front in
    on_err c.from_residual-in_err-write_whole.result _ (front_cut _ _ _ (steps_text c.args.shape c.args.steps.now) cut)

pub returns-clause-ok : goal.returns-clause-ok
returns-clause-ok g c =
    let wrote = rw (c.deref.ensures.value, c.in_ok-heading.ensures) at c.in_ok-write_whole.ensures.ok in
    on_ok_weaker c.write_records.result (appends_more _ _ _ _ (steps_text c.args.shape c.args.steps.now) wrote) c.write_records.ensures.ok

pub returns-clause-front : goal.returns-clause-front
returns-clause-front g c =
    let wrote = rw (c.deref.ensures.value, c.in_ok-heading.ensures) at c.in_ok-write_whole.ensures.ok in
    on_err_weaker c.write_records.result (front_after _ _ _ _ (steps_text c.args.shape c.args.steps.now) wrote) c.write_records.ensures.front
