use Rattle.snoop_rules.proofs.Common.{arith, common_steps, cache_text, piece_more}
use Rattle.snoop_rules.proofs.table_text.push_cache_table.Goals as goal

pub loop-state-preserved : goal.loop-state-preserved
loop-state-preserved c = piece_more _ _ _ _ _ _ _ c.loop-state-test.true c.loop-state.invariant c.in_ok-push_cache_rows.ensures.ok

pub returns : goal.returns
unfolding cache_text
returns c = grind (arith, common_steps)
