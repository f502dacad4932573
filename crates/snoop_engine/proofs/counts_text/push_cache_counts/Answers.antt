use Rattle.snoop_engine.proofs.Common.{piece_more}
use Rattle.snoop_engine.proofs.counts_text.push_cache_counts.Goals as goal

pub loop-state-preserved : goal.loop-state-preserved
loop-state-preserved c = piece_more _ _ _ _ _ _ _ c.loop-state-test.true c.loop-state.invariant c.in_ok-push_cache_rows.ensures
