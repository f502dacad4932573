use Rattle.snoop_cores.proofs.Common.{answers_of, GoesOn, StartsWith}
use Rattle.snoop_cores.proofs.own.find_same.Given as goal

abbrev pub invariant-loop : goal.invariant-loop
invariant-loop g l = GoesOn l.initial.reader l.reader × StartsWith (answers_of l.reader.seen l.core) l.answers
