use Rattle.snoop_cores.proofs.{Common.{refl, slice_index_or, sym, ◌∙◌, ◌≡◌}, Joining.first_on}
use Rattle.snoop_cores.proofs.gathering.answers_match.Goals.{in-Some-did+else-not-is_at_its_number, in_default-did}
use Rattle.snoop_cores.proofs.gathering.answers_match.Goals as goal

pub loop-place-preserved : goal.loop-place-preserved
loop-place-preserved c = λ core d lt.
    first_on c.args.log.now.items c.loop-place.place c.in-Some.item core (slice_index_or c.args.seats.now core d).answers (sym c.item.ensures.value ∙ c.in-Some.is) c.in-Some.ensures.numbered
    (λ did e same. elim c.match-did.branch [
      | in-Some-did+else-not-is_at_its_number w ↦
          let own : w.in-Some-did.did ≡ did = cc (w.in-Some-did.is, c.did.ensures, e) in
          rw (← same) (rw own at (w.if-not-is_at_its_number.ensures.sound refl d))
      | in_default-did w ↦ absurd (w.in_default-did.not-Some did (c.did.ensures ∙ e))
    ])
    (c.loop-place.invariant core d lt)
