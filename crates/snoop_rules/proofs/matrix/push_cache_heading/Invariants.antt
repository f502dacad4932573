use Rattle.snoop_rules.proofs.Common.{◌≡◌, ◌++◌, take, codes, filter, flat_map, event_name, cache_events, is_cache_event}
use Rattle.snoop_rules.proofs.matrix.push_cache_heading.Given as goal

-- the names so far
abbrev pub invariant-loop-event : goal.invariant-loop-event
invariant-loop-event l = l.out.items ≡ (l.fn.out.items ++ codes "state") ++ flat_map (λ event. codes "," ++ event_name event) (filter (is_cache_event l.protocol) (take l.event-index cache_events))
