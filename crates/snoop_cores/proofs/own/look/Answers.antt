use Rattle.snoop_cores.proofs.Beginnings.{begins_on, own_shown}
use Rattle.snoop_cores.proofs.own.look.Goals as goal

pub returns-in-Some-clause-begins : goal.returns-in-Some-clause-begins
returns-in-Some-clause-begins c = begins_on c.args.core c.own.new.self.seen c.args.reader.now.seen c.args.answers.now c.in-Some.ensures.some.0.begins c.requires.begins

pub returns-in-Some-clause-shows : goal.returns-in-Some-clause-shows
returns-in-Some-clause-shows c =
    let e = c.in-Some.ensures.some in
    own_shown c.judge.result c.args.core c.args.reader.now c.own.new.self c.args.answers.now c.in-Some.count c.in-Some.last e.0 c.requires.core c.requires.begins e.1 e.2 c.judge.ensures
