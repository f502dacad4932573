use Rattle.snoop_machine.proofs.{Common.err_from_is_err_and, Plans.{plan-allowed, IsPrepared-plan, IsFull-plan, HoldsOn-room}}
use Rattle.snoop_machine.proofs.parts.Parts.prepare.Goals as goal

pub returns-in_err-make_room-clause-refused : goal.returns-in_err-make_room-clause-refused
returns-in_err-make_room-clause-refused g c =
    let p = err_from_is_err_and c.from_residual.result c.from_residual.ensures.1 in
    rw (p.1, p.2) (rw c.in-Ok.ensures.found.0 at (plan-allowed c.args.self.now.situation c.in-Ok.plan c.in-Ok.ensures.found.1), c.in_err-make_room.ensures.refused)

pub returns-in_err-make_room-clause-full : goal.returns-in_err-make_room-clause-full
returns-in_err-make_room-clause-full g c = λ e. IsFull-plan c.args.self.now c.args.step c.in-Ok.plan c.in-Ok.ensures.found c.in_err-make_room.ensures.full

pub returns-clause-prepared : goal.returns-clause-prepared
returns-clause-prepared g c =
    IsPrepared-plan c.make_room.new.self c.args.step c.in-Ok.plan c.item.result
    (rw (← c.make_room.ensures.unchanged) at c.in-Ok.ensures.found) c.in_ok-make_room.ensures.ok c.item.ensures

pub returns-clause-lines : goal.returns-clause-lines
returns-clause-lines g c core =
    HoldsOn-room c.args.self.now c.make_room.new.self c.args.step c.in-Ok.plan core c.in-Ok.ensures.found c.make_room.ensures.unchanged (c.make_room.ensures.lines core)
