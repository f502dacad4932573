use Rattle.snoop_rules.proofs.TextLemmas.{piece_more}
use Rattle.snoop_counts.proofs.block_table.push_blocks.Goals as goal

pub loop-shown-preserved : goal.loop-shown-preserved
loop-shown-preserved c seen far all =
    let one = all c.loop-shown.shown-index (record { block = 0; requests = 0 }) c.loop-shown-test.true in
    piece_more _ _ _ _ _ _ _ c.loop-shown-test.true (c.loop-shown.invariant seen far all) (c.in_ok-push_block.ensures seen far one.0 one.1)
