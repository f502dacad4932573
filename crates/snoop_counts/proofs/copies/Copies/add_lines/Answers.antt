use Rattle.snoop_counts.proofs.LastLemmas.{lines_more}
use Rattle.snoop_counts.proofs.copies.Copies.add_lines.Goals as goal

pub loop-line-preserved : goal.loop-line-preserved
loop-line-preserved c = lines_more _ _ _ _ _ _ _ c.loop-line-test.true c.loop-line.invariant c.in_ok-add_line.ensures
