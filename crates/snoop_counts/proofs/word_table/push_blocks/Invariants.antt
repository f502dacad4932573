use Rattle.snoop_counts.{proofs.Common.{◌++◌, ◌≡◌, CountsWords, flat_map, Happening, List, range_with_len}, specs.ByWord.word_lines}
use Rattle.snoop_counts.proofs.word_table.push_blocks.Given as goal

-- the lines so far
abbrev pub invariant-loop-block : goal.invariant-loop-block
invariant-loop-block l = (seen : List Happening) → CountsWords l.shape seen l.tally → l.out.items ≡ l.fn.out.items ++ flat_map (word_lines l.shape seen) (range_with_len 0 l.block)
