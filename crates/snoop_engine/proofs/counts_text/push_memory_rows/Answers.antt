use Rattle.snoop_engine.proofs.Common.{piece_more}
use Rattle.snoop_engine.proofs.counts_text.push_memory_rows.Goals as goal

pub loop-event-preserved : goal.loop-event-preserved
loop-event-preserved c = piece_more _ _ _ _ _ _ _ c.loop-event-test.true c.loop-event.invariant c.in_ok-push_memory_row.ensures
