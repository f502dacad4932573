use Rattle.std.proofs.Common.{arith, map}
use Rattle.snoop_history.proofs.{Common.{length-map, next_number, unpacked}, Kept.all_inside, Pushed.{capped-few, next_number_le}}
use Rattle.snoop_history.proofs.log.Log.count.Goals as goal

pub returns : goal.returns
returns c =
    let packed = c.self.inside.items in
    let kept = c.self.invariant.kept in
    let few = capped-few (next_number (map unpacked packed.items) c.args.core) (omega (arith, next_number_le (map unpacked packed.items) c.args.core, length-map packed.items unpacked, packed.ok.0)) in
    rw (← c.self.view_is) (rw (all_inside kept, few) at (c.count.ensures.board _ _ _ _ kept.tallied))
