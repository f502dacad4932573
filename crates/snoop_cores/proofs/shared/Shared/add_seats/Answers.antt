use Rattle.std.proofs.Common.{ap, arith, inl, inr, length, subst, ◌∷◌, [], ◌≡◌}
use Rattle.std.proofs.lemmas.List.{get_or_append_left, get_or_push}
use Rattle.snoop_cores.proofs.Common.{cases_lt, Extent, IsNew, length_push}
use Rattle.snoop_cores.proofs.shared.Shared.add_seats.Goals as goal

pub loop-core-preserved : goal.loop-core-preserved
loop-core-preserved g c =
    let old = c.loop-core.seats.items in
    let core = c.loop-core.core in
    let seat = c.new-seat.result in
    let long : length old ≡ core = c.loop-core.invariant.0 in
    let more = c.in_default-push.ensures.items in (
      omega (arith, ap length more, length_push old seat, long),
      λ k d lt. rw more (elim (cases_lt k core) [
        | inl less ↦ rw (get_or_append_left old (seat ∷ []) d k (omega (arith, less, long))) (c.loop-core.invariant.1 k d less)
        | inr past ↦
            let same : k ≡ core = omega (arith, lt, past) in
            rw (same, get_or_push old seat d core long) (subst (λ (shape : Extent). IsNew core shape seat) c.in-Ok.ensures c.new-seat.ensures)
      ]),
    )
