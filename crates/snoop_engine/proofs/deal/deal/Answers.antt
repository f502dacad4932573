use Rattle.snoop_engine.proofs.Dealing.{dealt_more, dealt_none, first_within, in_largest}
use Rattle.snoop_engine.proofs.deal.deal.Goals as goal

pub loop-asked-init : goal.loop-asked-init
loop-asked-init c = dealt_none c.args.shape c.args.asks c.in_ok-lanes.lanes.items c.requires c.in_ok-lanes.ensures.cores c.in_ok-lanes.ensures.idle

pub push-requires : goal.push-requires
push-requires c = in_largest c.args.shape c.in-Some.asked c.within_limits.ensures (first_within c.loop-asked.invariant c.in-Some.ensures.first)

pub loop-asked-preserved : goal.loop-asked-preserved
loop-asked-preserved c = dealt_more c.loop-asked.invariant c.in-Some.ensures.first c.index_mut.result.now c.push.new.self c.index_mut.ensures.value c.in_ok-push.ensures.left c.push.ensures.work
