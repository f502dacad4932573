use Rattle.snoop_rules.proofs.Common.{◌≡◌, ◌++◌, take, codes, filter, flat_map, memory_state_name, memory_events, memory_field, is_memory_event}
use Rattle.snoop_rules.proofs.matrix.push_memory_line.Given as goal

-- the fields so far
abbrev pub invariant-loop-event : goal.invariant-loop-event
invariant-loop-event l = l.out.items ≡ (l.fn.out.items ++ memory_state_name l.state) ++ flat_map (λ event. codes "," ++ memory_field l.protocol l.state event) (filter (is_memory_event l.protocol) (take l.event-index memory_events))
