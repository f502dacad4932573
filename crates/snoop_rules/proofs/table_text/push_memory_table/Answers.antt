use Rattle.snoop_rules.proofs.Common.{arith, common_steps, memory_text, piece_more}
use Rattle.snoop_rules.proofs.table_text.push_memory_table.Goals as goal

pub loop-state-preserved : goal.loop-state-preserved
loop-state-preserved c = piece_more _ _ _ _ _ _ _ c.loop-state-test.true c.loop-state.invariant c.in_ok-push_memory_rows.ensures.ok

pub returns : goal.returns
unfolding memory_text
returns c = grind (arith, common_steps)
