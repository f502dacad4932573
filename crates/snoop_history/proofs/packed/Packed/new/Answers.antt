use Rattle.std.proofs.Common.{ap}
use Rattle.snoop_history.specs.History.{operation_of}
use Rattle.snoop_history.proofs.packed.Packed.new.Goals as goal

pub of_operation-requires-in-Did-clause-word : goal.of_operation-requires-in-Did-clause-word
of_operation-requires-in-Did-clause-word c = (c.requires.within.operation c.in-Did.did (ap operation_of c.in-Did.is)).2

pub of_operation-requires-in-Did-clause-number : goal.of_operation-requires-in-Did-clause-number
of_operation-requires-in-Did-clause-number c = c.requires.number c.in-Did.did (ap operation_of c.in-Did.is)
