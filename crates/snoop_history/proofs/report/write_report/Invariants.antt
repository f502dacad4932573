use Rattle.std.proofs.Common.{◌≡◌, ◌++◌, take}
use Rattle.snoop_history.specs.{Report.{blocks_text, totals_text}, Totals.{totals_of, touched}}
use Rattle.snoop_history.proofs.report.write_report.Given as goal

abbrev pub invariant-loop-block : goal.invariant-loop-block
invariant-loop-block g l = l.report.items ≡ totals_text (totals_of l.log.items) ++ blocks_text l.log.words l.log.items (take l.block-index (touched l.log.items))
