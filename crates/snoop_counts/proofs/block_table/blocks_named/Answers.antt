use Rattle.snoop_counts.proofs.BlockLemmas.{named_more}
use Rattle.snoop_counts.proofs.block_table.blocks_named.Goals as goal

pub loop-block-preserved : goal.loop-block-preserved
loop-block-preserved c seen far = rw (named_more seen, ← c.loop-block.invariant seen far) (c.in_ok-push_named.ensures c.args.blocks seen far c.loop-block-test.true)
