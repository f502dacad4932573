use Rattle.snoop_rules.proofs.Common.{◌≡◌, ◌++◌, take, codes, filter, flat_map}
use Rattle.snoop_rules.proofs.Common.{memory_event_name, memory_state_name, memory_events, memory_states, memory_field, is_memory_event, is_memory_state, line_of}
use Rattle.snoop_rules.proofs.matrix.push_memory_matrix.Given as goal

-- the heading, and the lines so far
abbrev pub invariant-loop-state : goal.invariant-loop-state
invariant-loop-state l =
    l.out.items ≡ (l.fn.out.items ++ line_of (codes "state") memory_event_name (filter (is_memory_event l.protocol) memory_events))
    ++ flat_map (λ state. line_of (memory_state_name state) (memory_field l.protocol state) (filter (is_memory_event l.protocol) memory_events)) (filter (is_memory_state l.protocol) (take l.state-index memory_states))
