use Rattle.snoop_counts.proofs.Common.{refl}
use Rattle.snoop_counts.proofs.whole_run.WholeRunView.begin.Goals as goal

pub returns-clause-begins : goal.returns-clause-begins
returns-clause-begins g c = (refl, (c.new.ensures _ _, rw c.shape.ensures at c.in_ok-start.ensures))
