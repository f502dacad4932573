use Rattle.snoop_rules.proofs.Common.{◌≡◌, ◌++◌, take, codes, filter, flat_map, state_name, cache_events, cache_field, is_cache_event}
use Rattle.snoop_rules.proofs.matrix.push_cache_line.Given as goal

-- the fields so far
abbrev pub invariant-loop-event : goal.invariant-loop-event
invariant-loop-event l = l.out.items ≡ (l.fn.out.items ++ state_name l.state) ++ flat_map (λ event. codes "," ++ cache_field l.protocol l.state event) (filter (is_cache_event l.protocol) (take l.event-index cache_events))
