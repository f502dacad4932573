use Rattle.snoop_rules.proofs.Common.{◌≡◌, ◌++◌, take, flat_map, cache_events, cache_states, cache_line_at}
use Rattle.snoop_rules.proofs.table_text.push_cache_table.Given as goal

-- the lines so far
abbrev pub invariant-loop-state : goal.invariant-loop-state
invariant-loop-state l = l.out.items ≡ l.fn.out.items ++ flat_map (λ state. flat_map (cache_line_at l.protocol state) cache_events) (take l.state-index cache_states)
