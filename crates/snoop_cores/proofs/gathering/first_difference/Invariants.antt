use Rattle.snoop_cores.proofs.Joining.{AreFirst}
use Rattle.std.proofs.Common.{take}
use Rattle.snoop_cores.proofs.gathering.first_difference.Given as goal

abbrev pub invariant-loop-place : goal.invariant-loop-place
invariant-loop-place l = AreFirst (take l.place l.log.items) l.core l.next l.answers
