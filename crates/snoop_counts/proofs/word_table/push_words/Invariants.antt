use Rattle.snoop_counts.{proofs.Common.{◌++◌, ◌≡◌, CountsWords, flat_map, Happening, List, range_with_len}, specs.ByWord.word_line}
use Rattle.snoop_counts.proofs.word_table.push_words.Given as goal

-- the lines so far
abbrev pub invariant-loop-word : goal.invariant-loop-word
invariant-loop-word l = (seen : List Happening) → CountsWords l.shape seen l.tally → l.out.items ≡ l.fn.out.items ++ flat_map (word_line l.shape seen l.block) (range_with_len 0 l.word)
