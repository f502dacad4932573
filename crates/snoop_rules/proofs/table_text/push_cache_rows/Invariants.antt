use Rattle.snoop_rules.proofs.Common.{◌≡◌, ◌++◌, take, flat_map, cache_events, cache_line_at}
use Rattle.snoop_rules.proofs.table_text.push_cache_rows.Given as goal

-- the lines so far
abbrev pub invariant-loop-event : goal.invariant-loop-event
invariant-loop-event l = l.out.items ≡ l.fn.out.items ++ flat_map (cache_line_at l.protocol l.state) (take l.event-index cache_events)
