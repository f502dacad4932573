use Rattle.snoop_engine.proofs.Common.{◌≡◌, ◌++◌, flat_map, range_with_len, kept_at, spaced}
use Rattle.snoop_engine.proofs.words.push_kept.Given as goal

-- the values so far
abbrev pub invariant-loop-word : goal.invariant-loop-word
invariant-loop-word l = l.out.items ≡ l.fn.out.items ++ flat_map (λ word. spaced (kept_at l.machine.situation l.core l.block word)) (range_with_len 0 l.word)
