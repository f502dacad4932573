use Rattle.snoop_engine.proofs.Common.{◌≡◌, ◌++◌, take, flat_map, taken_text}
use Rattle.snoop_engine.proofs.states.push_lines.Given as goal

-- the lines so far
abbrev pub invariant-loop-taken : goal.invariant-loop-taken
invariant-loop-taken l = l.out.items ≡ l.fn.out.items ++ flat_map (λ taken. l.fields ++ taken_text l.machine.situation taken) (take l.taken-index l.lines)
