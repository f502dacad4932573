use Rattle.std.proofs.Common.{◌++◌, ◌≡◌, codes, decimal, flat_map, take}
use Rattle.snoop_states.proofs.at_end.push_further.Given as goal

-- the numbers so far
abbrev pub invariant-loop-number : goal.invariant-loop-number
invariant-loop-number l = l.out.items ≡ l.fn.out.items ++ flat_map (λ m. codes ", " ++ l.word ++ decimal m) (take l.number-index l.numbers)
