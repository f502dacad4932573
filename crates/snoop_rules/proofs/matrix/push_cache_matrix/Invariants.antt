use Rattle.snoop_rules.proofs.Common.{◌≡◌, ◌++◌, take, codes, filter, flat_map}
use Rattle.snoop_rules.proofs.Common.{event_name, state_name, cache_events, cache_states, cache_field, is_cache_event, is_cache_state, line_of}
use Rattle.snoop_rules.proofs.matrix.push_cache_matrix.Given as goal

-- the heading, and the lines so far
abbrev pub invariant-loop-state : goal.invariant-loop-state
invariant-loop-state l =
    l.out.items ≡ (l.fn.out.items ++ line_of (codes "state") event_name (filter (is_cache_event l.protocol) cache_events))
    ++ flat_map (λ state. line_of (state_name state) (cache_field l.protocol state) (filter (is_cache_event l.protocol) cache_events)) (filter (is_cache_state l.protocol) (take l.state-index cache_states))
