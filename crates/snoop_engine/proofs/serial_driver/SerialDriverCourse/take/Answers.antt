use Rattle.snoop_engine.proofs.{Common.InOrder, CourseLemmas.{fewer_in_order, in_order_leads}, Completing.in_order_can_end, InOrderLemmas.in_order_moves}
use Rattle.snoop_engine.proofs.serial_driver.SerialDriverCourse.take.Goals as goal

pub invariant_of-self-2 : goal.invariant_of-self-2
invariant_of-self-2 c = in_order_moves c.self.invariant _ c.args.step c.in_ok-reply.reply (rw (← c.self.view_is) at c.requires.1.under_way) c.in_ok-reply.ensures.taken

pub returns-clause-fewer : goal.returns-clause-fewer
returns-clause-fewer c before finds =
    let found = rw (← c.self.view_is) at finds in
    let new : InOrder = record { situation = c.take_enabled.new.machine.situation; left = c.self.inside.rows.now; row = c.self.inside.row } in
    fewer_in_order before new c.args.step c.in_ok-reply.reply (rw found.situation at c.in_ok-reply.ensures.taken) found.takes_up

pub returns-clause-leads : goal.returns-clause-leads
returns-clause-leads c before finds =
    let found = rw (← c.self.view_is) at finds in
    in_order_leads before _ c.args.step c.in_ok-reply.reply (rw found.situation at c.in_ok-reply.ensures.taken) found.takes_up

pub returns-clause-can_end : goal.returns-clause-can_end
returns-clause-can_end c = in_order_can_end _ (in_order_moves c.self.invariant _ c.args.step c.in_ok-reply.reply (rw (← c.self.view_is) at c.requires.1.under_way) c.in_ok-reply.ensures.taken)
