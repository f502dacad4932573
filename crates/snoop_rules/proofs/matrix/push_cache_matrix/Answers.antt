use Rattle.snoop_rules.proofs.Common.{arith, kept_more}
use Rattle.snoop_rules.proofs.matrix.push_cache_matrix.Goals as goal

pub loop-state-preserved : goal.loop-state-preserved
loop-state-preserved c = kept_more _ _ _ _ _ _ _ _ _ c.loop-state-test.true c.loop-state.invariant c.is_cache_state.ensures (grind arith)
