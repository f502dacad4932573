use Rattle.snoop_engine.proofs.Common.{◌≡◌, ◌++◌, take, flat_map, cache_events, cache_states, cache_count_at, counts_in}
use Rattle.snoop_engine.proofs.counts_text.push_cache_counts.Given as goal

-- the lines so far
abbrev pub invariant-loop-state : goal.invariant-loop-state
invariant-loop-state l = l.out.items ≡ l.fn.out.items ++ flat_map (λ state. flat_map (cache_count_at l.protocol (counts_in l.tally.counters) state) cache_events) (take l.state-index cache_states)
