use Rattle.snoop_cores.proofs.{Common.{answers_of, sym, true≢false}, Beginnings.stranger_more}
use Rattle.snoop_cores.proofs.own.find_own.Goals as goal

pub returns-in-More-2-clause-err : goal.returns-in-More-2-clause-err
returns-in-More-2-clause-err g c =
    let more = c.in-More.ensures.shows in
    (stranger_more c.in-More.did c.args.work (answers_of c.look.new.reader.seen c.args.core) c.args.answers.now (λ does. true≢false (sym (c.if-does.ensures.whole does))) more.0, more.1)
