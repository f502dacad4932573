use Rattle.snoop_cores.proofs.Common.{AreDealt, length, take, ◌≡◌}
use Rattle.snoop_cores.proofs.deal.deal.Given as goal

abbrev pub invariant-loop-row : goal.invariant-loop-row
invariant-loop-row l = (length l.dealt.items ≡ l.cores) × AreDealt (take l.row-index l.rows) l.dealt.items
