use Rattle.std.proofs.{Common.{arith, [], ◌≡◌}, lemmas.{Grind.common_steps, List.Elements.All-push}}
use Rattle.snoop_bus.proofs.Within.{AreBlocksWithin-empty}
use Rattle.snoop_bus.proofs.bus.Bus.new.Goals as goal

pub loop-preserved : goal.loop-preserved
loop-preserved g c = (
  grind (arith, common_steps),
  rw c.push_reserved.ensures.items (All-push (λ queue. queue.requests ≡ []) _ _ c.loop.invariant.1 c.new.ensures.items),
  grind (arith, common_steps),
)

pub invariant_of-result : goal.invariant_of-result
invariant_of-result g c = AreBlocksWithin-empty _ _ c.loop.invariant.1
