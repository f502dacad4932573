use Rattle.snoop_engine.proofs.Common.{◌≡◌, ◌++◌, codes, decimal, flat_map, range_with_len, word_at}
use Rattle.snoop_engine.proofs.words.push_data.Given as goal

-- the values so far
abbrev pub invariant-loop-word : goal.invariant-loop-word
invariant-loop-word l = l.out.items ≡ l.fn.out.items ++ flat_map (λ word. codes " " ++ decimal (word_at l.values word)) (range_with_len 0 l.word)
