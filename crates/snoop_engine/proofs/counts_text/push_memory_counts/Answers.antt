use Rattle.snoop_engine.proofs.Common.{piece_more}
use Rattle.snoop_engine.proofs.counts_text.push_memory_counts.Goals as goal

pub loop-state-preserved : goal.loop-state-preserved
loop-state-preserved c = piece_more _ _ _ _ _ _ _ c.loop-state-test.true c.loop-state.invariant c.in_ok-push_memory_rows.ensures
