use Rattle.std.proofs.{Common.{length, ap, append_assoc, arith}, lemmas.List.drop_more}
use Rattle.snoop_svg.proofs.columns.add_lanes.Goals as goal

pub loop-core-preserved : goal.loop-core-preserved
loop-core-preserved c =
    let left = drop_more c.args.cores.now c.loop-core.core-index 0 c.loop-core-test.true in
    record {
      columns = rw (c.in_ok-add.ensures, append_assoc) (rw left at c.loop-core.invariant.columns);
      next = rw left at c.loop-core.invariant.next;
      room = omega (arith, ap length left, c.loop-core.invariant.room, c.requires.narrow.lane);
    }
