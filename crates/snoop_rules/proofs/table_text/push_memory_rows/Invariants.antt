use Rattle.snoop_rules.proofs.Common.{◌≡◌, ◌++◌, take, flat_map, memory_events, memory_line_at}
use Rattle.snoop_rules.proofs.table_text.push_memory_rows.Given as goal

-- the lines so far
abbrev pub invariant-loop-event : goal.invariant-loop-event
invariant-loop-event l = l.out.items ≡ l.fn.out.items ++ flat_map (memory_line_at l.protocol l.state) (take l.event-index memory_events)
