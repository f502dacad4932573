use Rattle.snoop_rules.proofs.Common.{◌++◌, codes, arith, kept_more}
use Rattle.snoop_rules.proofs.matrix.push_cache_heading.Goals as goal

pub loop-event-preserved : goal.loop-event-preserved
loop-event-preserved c = kept_more _ (λ e. codes "," ++ _) _ _ _ _ _ _ _ c.loop-event-test.true c.loop-event.invariant c.is_cache_event.ensures (grind arith)
