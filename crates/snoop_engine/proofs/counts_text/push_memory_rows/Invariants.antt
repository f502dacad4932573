use Rattle.snoop_engine.proofs.Common.{◌≡◌, ◌++◌, take, flat_map, memory_events, memory_count_at, memory_counts_in}
use Rattle.snoop_engine.proofs.counts_text.push_memory_rows.Given as goal

-- the lines so far
abbrev pub invariant-loop-event : goal.invariant-loop-event
invariant-loop-event l = l.out.items ≡ l.fn.out.items ++ flat_map (memory_count_at l.protocol (memory_counts_in l.tally.counters) l.state) (take l.event-index memory_events)
