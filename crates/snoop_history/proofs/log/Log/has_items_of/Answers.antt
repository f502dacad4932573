use Rattle.std.proofs.Common.{arith, refl}
use Rattle.snoop_history.proofs.{Kept.same-places}
use Rattle.snoop_history.proofs.log.Log.has_items_of.Goals as goal

pub returns : goal.returns
returns c =
    let same = same-places c.args.self.now.items c.args.other.now.items (omega arith) (λ k within. c.loop-place.invariant k (omega arith)) in
    (λ h. same, λ h. refl)
