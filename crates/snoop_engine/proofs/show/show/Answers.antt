use Rattle.snoop_engine.proofs.{Common.{◌∙◌, ◌≡◌}, Common.{ap, sym, Situation, on_err, refl, append-nil}, Gathering.{gathering_none, gathering_spilled}}
use Rattle.snoop_engine.proofs.ShownLemmas.{ends_with_nothing, showing_cut, showing_cut_at_end, showing_done, showing_more, showing_stop}
use Rattle.snoop_engine.proofs.show.show.Goals as goal

pub returns-in_err-possible_holders-clause-front : goal.returns-in_err-possible_holders-clause-front
returns-in_err-possible_holders-clause-front g c =
    on_err c.from_residual.result _ (ends_with_nothing _ _ _ _ _ _ c.requires.can_end (g.W.Write.contents c.args.writer.now))

pub returns-in_err-begin-clause-front : goal.returns-in_err-begin-clause-front
returns-in_err-begin-clause-front g c =
    on_err c.from_residual-in_err-begin.result _ (ends_with_nothing _ _ _ _ _ _ c.requires.can_end (g.W.Write.contents c.args.writer.now))

pub loop-step-init : goal.loop-step-init
loop-step-init g c =
    let s = g.C.Course.situation c.args.course.now in
    let same : s.shape ≡ c.args.shape = ap (λ (t : Situation). t.shape) c.requires.reset in (
      record {
        so_far = gathering_none _ _ _ _ _ _ _ _ c.requires.reset c.requires.can_end (refl, rw (c.machine.ensures, same) at c.in_ok-begin.ensures.begins)
            (rw append-nil (rw (c.machine.ensures, same, c.new-chunk.ensures.items) at c.in_ok-begin.ensures.text));
      },
      (λ none. none),
      rw c.requires.reset (c.in_ok-possible_holders.ensures s.protocol c.args.shape (sym c.blocks-2.ensures.value)),
    )

pub returns-in_err-number-clause-front : goal.returns-in_err-number-clause-front
returns-in_err-number-clause-front g c = on_err c.from_residual-in_err-number.result _ (showing_stop c.loop-step.invariant.0 (g.V.View.ending c.args.view.now))

pub returns-in_err-outcome-clause-front : goal.returns-in_err-outcome-clause-front
returns-in_err-outcome-clause-front g c = on_err c.from_residual-in_err-outcome.result _ (showing_stop c.loop-step.invariant.0 (g.V.View.ending c.args.view.now))

pub returns-in_err-see-clause-front : goal.returns-in_err-see-clause-front
returns-in_err-see-clause-front g c = on_err c.from_residual-in_err-see.result _ (showing_stop c.loop-step.invariant.0 (g.V.View.ending c.args.view.now))

pub loop-step-preserved : goal.loop-step-preserved
loop-step-preserved g c =
    let far =
    showing_more c.loop-step.invariant.0 (λ p s frames. g.V.View.has_seen c.args.view.now p s frames c.see.new.self) _ _ _ _ c.in_ok-number.ensures (rw c.in-Some.ensures.same at c.in_ok-outcome.ensures.goes)
    (c.deref.ensures.value ∙ (rw c.in-Some.ensures.same at c.in_ok-outcome.ensures.lines)) (c.block_of-block.ensures _ (rw (c.machine-in-Some.ensures, c.in-Some.ensures.same) at c.head_for-head.ensures))
    (c.in_ok-outcome.ensures.leads c.loop-step.course c.in-Some.ensures.found) c.in_ok-outcome.ensures.can_end (rw c.machine-in-Some-2.ensures at (c.in_ok-see.ensures c.args.view.now)) in (
      record { so_far = gathering_spilled far.so_far _ _ c.in_ok-spill.ensures.ok },
      (λ none. (c.in_ok-spill.ensures.blamed (c.loop-step.invariant.1 none)).1 (λ failed. cc)),
      c.in_ok-outcome.ensures.possible_holders,
    )

pub returns-in_err-spill-clause-front : goal.returns-in_err-spill-clause-front
returns-in_err-spill-clause-front g c =
    let far =
    showing_more c.loop-step.invariant.0 (λ p s frames. g.V.View.has_seen c.args.view.now p s frames c.see.new.self) _ _ _ _ c.in_ok-number.ensures (rw c.in-Some.ensures.same at c.in_ok-outcome.ensures.goes)
    (c.deref.ensures.value ∙ (rw c.in-Some.ensures.same at c.in_ok-outcome.ensures.lines)) (c.block_of-block.ensures _ (rw (c.machine-in-Some.ensures, c.in-Some.ensures.same) at c.head_for-head.ensures))
    (c.in_ok-outcome.ensures.leads c.loop-step.course c.in-Some.ensures.found) c.in_ok-outcome.ensures.can_end (rw c.machine-in-Some-2.ensures at (c.in_ok-see.ensures c.args.view.now)) in
    on_err c.from_residual-in_err-spill.result _ (showing_cut far (g.V.View.ending c.args.view.now) _ c.in_err-spill.ensures.front)

pub returns-in_err-end-clause-front : goal.returns-in_err-end-clause-front
returns-in_err-end-clause-front g c = on_err c.from_residual-in_err-end.result _ (showing_stop c.loop-step.invariant.0 (g.V.View.ending c.args.view.now))

pub returns-in_err-write_whole-clause-front : goal.returns-in_err-write_whole-clause-front
returns-in_err-write_whole-clause-front g c =
    on_err c.from_residual-in_err-write_whole.result _
    (showing_cut_at_end c.loop-step.invariant.0 (g.V.View.ending c.args.view.now) c.end.new.out.items (rw c.in_default.is at c.find.ensures.end)
    (rw (c.machine-2.ensures, c.find.ensures.same) at (c.in_ok-end.ensures c.args.view.now)) _ (rw c.deref-2.ensures.value at c.in_err-write_whole.ensures.front))

pub returns-clause-ok : goal.returns-clause-ok
returns-clause-ok g c =
    showing_done c.loop-step.invariant.0 (g.V.View.ending c.args.view.now) c.end.new.out.items (rw c.in_default.is at c.find.ensures.end)
    (rw (c.machine-2.ensures, c.find.ensures.same) at (c.in_ok-end.ensures c.args.view.now)) _ (rw c.deref-2.ensures.value at c.in_ok-write_whole.ensures.ok)
