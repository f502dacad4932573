use Rattle.snoop_engine.proofs.Common.{◌≡◌, ◌≤◌, length, vec_capacity, All, nothing_to_do}
use Rattle.snoop_engine.proofs.deal.empty_lanes.Given as goal

abbrev pub invariant-loop : goal.invariant-loop
invariant-loop l = (length l.lanes.items ≡ l.counter) × All (λ lane. lane ≡ nothing_to_do) l.lanes.items × (l.cores ≤ vec_capacity l.lanes)
