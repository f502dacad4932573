use Rattle.snoop_engine.proofs.{Common.Progress, CourseLemmas.{driver_leads, leaves_fewer}, Completing.driver_can_end, Driving.fit_moves}
use Rattle.snoop_engine.proofs.driver.DriverCourse.take.Goals as goal

pub invariant_of-self-2 : goal.invariant_of-self-2
invariant_of-self-2 c = fit_moves c.self.invariant _ c.args.step c.in_ok-reply.reply (rw (← c.self.view_is) at c.requires.1.under_way) c.in_ok-reply.ensures.taken

pub returns-clause-fewer : goal.returns-clause-fewer
returns-clause-fewer c before finds =
    let found = rw (← c.self.view_is) at finds in
    let new : Progress = record { situation = c.take_enabled.new.machine.situation; lanes = c.self.inside.lanes.items; turns = c.self.inside.turns.items } in
    leaves_fewer before new c.args.step c.in_ok-reply.reply (rw found.situation at c.in_ok-reply.ensures.taken) found.takes_up

pub returns-clause-leads : goal.returns-clause-leads
returns-clause-leads c before finds =
    let found = rw (← c.self.view_is) at finds in
    driver_leads before _ c.args.step c.in_ok-reply.reply (rw found.situation at c.in_ok-reply.ensures.taken) found.takes_up found.apart

pub returns-clause-can_end : goal.returns-clause-can_end
returns-clause-can_end c = driver_can_end _ (fit_moves c.self.invariant _ c.args.step c.in_ok-reply.reply (rw (← c.self.view_is) at c.requires.1.under_way) c.in_ok-reply.ensures.taken)
