use Rattle.snoop_rules.proofs.Common.{◌≡◌, ◌++◌, take, flat_map, memory_events, memory_states, memory_line_at}
use Rattle.snoop_rules.proofs.table_text.push_memory_table.Given as goal

-- the lines so far
abbrev pub invariant-loop-state : goal.invariant-loop-state
invariant-loop-state l = l.out.items ≡ l.fn.out.items ++ flat_map (λ state. flat_map (memory_line_at l.protocol state) memory_events) (take l.state-index memory_states)
