use Rattle.snoop_bench.proofs.{Common.{Ask, false, IsReadableStep, Locked, refl, subst, sym, well_kept_in, works_under_way}}
use Rattle.snoop_bench.proofs.{Turning.{asked_keeps, its_block, stepped}, Outcomes.asked_so}
use Rattle.snoop_bench.proofs.bench.Bench.begin.Goals as goal

pub take-requires-clause-allowed : goal.take-requires-clause-allowed
take-requires-clause-allowed g c =
    let work = c.args.work in
    let inside = rw (← c.self.view_is) at c.requires.inside in
    c.turns_are_served.ensures.never_refused c.self.inside.recorder.situation (works_under_way c.self.inside.works.items) c.args.core work.block work.word work.op false _
    c.self.invariant.serving (well_kept_in _ c.recorded.ensures.safe) inside.0 inside.1 inside.2 (its_block _ _ (rw (← c.self.view_is) at c.requires.idle)) refl

pub take-requires-clause-within : goal.take-requires-clause-within
take-requires-clause-within g c =
    let step = Ask c.args.core c.args.work.block c.args.work.word c.args.work.op in
    subst (λ (l : Locked). IsReadableStep l.situation.shape step) (sym c.self.view_is) c.requires.within

pub invariant_of-self-2 : goal.invariant_of-self-2
invariant_of-self-2 g c =
    rw c.note.ensures
    (asked_keeps c.turns_are_served.ensures c.self.inside.works.items c.args.core c.args.work c.self.invariant
    (rw (← c.self.view_is) at c.requires.idle) (rw (← c.self.view_is) at c.requires.inside)
    (stepped c.turns_are_served.ensures (well_kept_in _ c.recorded.ensures.safe) c.in_ok-reply.ensures.takes c.in_ok-reply.ensures.once c.take.ensures.stays.1))

pub returns-clause-ok : goal.returns-clause-ok
returns-clause-ok g c =
    let work = c.args.work in
    let asked = asked_so _ _ c.args.core work.block work.word work.op c.in_ok-reply.reply c.asked.result c.in_ok-reply.ensures.told c.asked.ensures c.note.ensures in
    rw (← c.self.view_is) (c.in_ok-reply.reply, (c.in_ok-reply.ensures.takes, asked))
