use Rattle.snoop_machine.proofs.{Common.{waiting_of, arith}, PartsViews.{queue_of-queues_of, some_first}}
use Rattle.snoop_machine.proofs.parts.Parts.waiting.Goals as goal

pub returns : goal.returns
returns g c =
    let first = some_first (waiting_of c.self.inside.bus c.args.core).requests in
    let line = queue_of-queues_of c.self.inside.bus.queues c.args.core in
    grind (arith, first, line, c.is_some.ensures, c.head.ensures, c.self.view_is)
