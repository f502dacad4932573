use Rattle.snoop_machine.proofs.parts.Parts.perform.Goals as goal

pub returns-in-Respond-clause-moved : goal.returns-in-Respond-clause-moved
returns-in-Respond-clause-moved g c = rw c.in-Respond.is (c.in-Respond.came.block, (tt, c.finish-did.ensures.responded))
