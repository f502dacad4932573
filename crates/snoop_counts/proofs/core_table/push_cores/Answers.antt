use Rattle.snoop_counts.proofs.BlockLemmas.{pieces_more}
use Rattle.snoop_counts.proofs.core_table.push_cores.Goals as goal

pub loop-core-preserved : goal.loop-core-preserved
loop-core-preserved c seen far = rw (pieces_more, ← c.loop-core.invariant seen far) (c.in_ok-push_core.ensures c.args.cores seen far c.loop-core-test.true)
