use Rattle.snoop_engine.proofs.PossibleHolderLemmas.{follow_ask, follow_other}
use Rattle.snoop_engine.proofs.possible_holders.PossibleHolders.follow.Goals as goal

pub returns-in-Ask : goal.returns-in-Ask
returns-in-Ask c = λ old new answer are few goes.
    follow_ask old new c.in-Ask.core c.in-Ask.block c.in-Ask.word c.in-Ask.op answer c.args.self.now.sets _ are few (rw c.in-Ask.is at goes) c.insert.ensures

pub returns-in-Order : goal.returns-in-Order
returns-in-Order c = λ old new answer are few goes. follow_other old new c.args.step answer c.args.self.now.sets (rw c.in-Order.is (λ core block is. is)) are goes

pub returns-in-Respond : goal.returns-in-Respond
returns-in-Respond c = λ old new answer are few goes. follow_other old new c.args.step answer c.args.self.now.sets (rw c.in-Respond.is (λ core block is. is)) are goes
