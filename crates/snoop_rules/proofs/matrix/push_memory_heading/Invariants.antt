use Rattle.snoop_rules.proofs.Common.{◌≡◌, ◌++◌, take, codes, filter, flat_map, memory_event_name, memory_events, is_memory_event}
use Rattle.snoop_rules.proofs.matrix.push_memory_heading.Given as goal

-- the names so far
abbrev pub invariant-loop-event : goal.invariant-loop-event
invariant-loop-event l = l.out.items ≡ (l.fn.out.items ++ codes "state") ++ flat_map (λ event. codes "," ++ memory_event_name event) (filter (is_memory_event l.protocol) (take l.event-index memory_events))
