use Rattle.std.{proofs.Common.{◌≡◌, ◌++◌, codes, map}, specs.Fmt.decimal}
use Rattle.snoop_history.proofs.Common.{flat, range_with_len, values_text}
use Rattle.snoop_history.proofs.report.push_block.Given as goal

abbrev pub invariant-loop-word : goal.invariant-loop-word
invariant-loop-word l = l.out.items ≡ (l.fn.out.items ++ (codes "block " ++ decimal l.block ++ codes " value")) ++ values_text (map (flat l.log.items l.block) (range_with_len 0 l.word))
