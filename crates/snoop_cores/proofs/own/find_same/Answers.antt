use Rattle.snoop_cores.proofs.{Common.{answers_of, IsOp, subst}, Beginnings.stranger_more}
use Rattle.snoop_trace.specs.declared.step.Op.{Op}
use Rattle.snoop_cores.proofs.own.find_same.Goals as goal

pub returns-in-More-clause-err : goal.returns-in-More-clause-err
returns-in-More-clause-err g c =
    let more = c.in-More.ensures.shows in
    (stranger_more c.in-More.did c.args.work (answers_of c.look.new.reader.seen c.args.core) c.args.answers.now (λ does. subst (λ (wanted : Op). IsOp wanted c.in-More.did) c.requires.evicts does.2) more.0, more.1)
