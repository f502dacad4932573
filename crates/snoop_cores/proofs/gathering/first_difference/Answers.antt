use Rattle.snoop_cores.proofs.{Common.{arith, refl, sym, take_all, true≢false, ◌∙◌}, Joining.{first_less, next_differs, next_passes, next_stands}}
use Rattle.snoop_cores.proofs.gathering.first_difference.Goals.{in-Some-own_did+else-not-stands_at, in_default-own_did}
use Rattle.snoop_cores.proofs.gathering.first_difference.Goals as goal

pub returns-then-not-stands_at-clause-some : goal.returns-then-not-stands_at-clause-some
returns-then-not-stands_at-clause-some c =
    next_differs c.args.log.now.items c.args.core c.args.answers.now c.loop-place.place c.loop-place.next c.in-Some.item (sym c.item.ensures.value ∙ c.in-Some.is) c.loop-place.invariant
    c.in-Some-own_did.did c.in-Some-own_did.ensures (λ here. true≢false (sym (c.if-not-stands_at.ensures.whole here)))

pub returns-then-next-answers-clause-some : goal.returns-then-next-answers-clause-some
returns-then-next-answers-clause-some c =
    let items = c.args.log.now.items in
    let whole = take_all c.loop-place.place items (omega (arith, c.loop-place-test.false, c.len-place-end.ensures)) in
    first_less items c.args.core c.loop-place.next c.args.answers.now (rw whole at c.loop-place.invariant) c.if-next-answers.true

pub loop-place-preserved : goal.loop-place-preserved
loop-place-preserved c =
    let items = c.args.log.now.items in
    let answers = c.args.answers.now in
    let there = sym c.item.ensures.value ∙ c.in-Some.is in
    elim c.match-own_did.branch [
      | in-Some-own_did+else-not-stands_at w ↦
          rw w.next-is (next_stands items c.args.core answers c.loop-place.place c.loop-place.next c.in-Some.item there c.loop-place.invariant
          w.in-Some-own_did.did w.in-Some-own_did.ensures (w.if-not-stands_at.ensures.sound refl))
      | in_default-own_did w ↦
          rw w.next-is (next_passes items c.args.core answers c.loop-place.place c.loop-place.next c.in-Some.item there c.loop-place.invariant w.in_default-own_did.ensures)
    ]
