use Rattle.snoop_engine.proofs.Common.{◌≡◌, ◌++◌, take, flat_map, cache_events, cache_count_at, counts_in}
use Rattle.snoop_engine.proofs.counts_text.push_cache_rows.Given as goal

-- the lines so far
abbrev pub invariant-loop-event : goal.invariant-loop-event
invariant-loop-event l = l.out.items ≡ l.fn.out.items ++ flat_map (cache_count_at l.protocol (counts_in l.tally.counters) l.state) (take l.event-index cache_events)
