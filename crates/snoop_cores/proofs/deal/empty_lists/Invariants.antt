use Rattle.snoop_cores.proofs.Common.{[], All, length, vec_capacity, ◌≡◌, ◌≤◌}
use Rattle.snoop_cores.proofs.deal.empty_lists.Given as goal

abbrev pub invariant-loop : goal.invariant-loop
invariant-loop l = (length l.lists.items ≡ l.counter) × All (λ own. own.items ≡ []) l.lists.items × (l.count ≤ vec_capacity l.lists)
