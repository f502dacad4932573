use Rattle.std.proofs.Common.{◌++◌, ◌≡◌, replicate}
use Rattle.snoop_states.proofs.pieces.push_blanks.Given as goal

-- the blanks so far
abbrev pub invariant-loop : goal.invariant-loop
invariant-loop l = l.out.items ≡ l.fn.out.items ++ replicate l.counter 32
