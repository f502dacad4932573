use Rattle.snoop_engine.proofs.Common.{◌≡◌, ◌≤◌, range_with_len}
use Rattle.std.specs.VecDeque.{deque_len, deque_capacity}
use Rattle.snoop_engine.proofs.deal.all_cores.Given as goal

abbrev pub invariant-loop-core : goal.invariant-loop-core
invariant-loop-core l = (l.cores.items ≡ range_with_len 0 l.core) × (deque_len l.cores ≡ l.core) × (l.count ≤ deque_capacity l.cores)
