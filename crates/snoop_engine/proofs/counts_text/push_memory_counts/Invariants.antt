use Rattle.snoop_engine.proofs.Common.{◌≡◌, ◌++◌, take, flat_map, memory_events, memory_states, memory_count_at, memory_counts_in}
use Rattle.snoop_engine.proofs.counts_text.push_memory_counts.Given as goal

-- the lines so far
abbrev pub invariant-loop-state : goal.invariant-loop-state
invariant-loop-state l = l.out.items ≡ l.fn.out.items ++ flat_map (λ state. flat_map (memory_count_at l.protocol (memory_counts_in l.tally.counters) state) memory_events) (take l.state-index memory_states)
