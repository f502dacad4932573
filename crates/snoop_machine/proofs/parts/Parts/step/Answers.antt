use Rattle.snoop_machine.proofs.{Common.{refl, err_from_is_err_and}, Plans.{plan-allowed, IsFull-plan, HoldsOn-taken, KeepsRoom-taken}}
use Rattle.snoop_machine.proofs.parts.Parts.step.Goals as goal

pub returns-in_err-make_room-clause-refused : goal.returns-in_err-make_room-clause-refused
returns-in_err-make_room-clause-refused g c =
    let p = err_from_is_err_and c.from_residual.result c.from_residual.ensures.1 in
    rw (p.1, p.2) (rw c.in-Ok.ensures.found.0 at (plan-allowed c.args.self.now.situation c.in-Ok.plan c.in-Ok.ensures.found.1), c.in_err-make_room.ensures.refused)

pub returns-in_err-make_room-clause-full : goal.returns-in_err-make_room-clause-full
returns-in_err-make_room-clause-full g c = λ e. IsFull-plan c.args.self.now c.args.step c.in-Ok.plan c.in-Ok.ensures.found c.in_err-make_room.ensures.full

pub returns-clause-prepared : goal.returns-clause-prepared
returns-clause-prepared g c =
    let move = rw (c.make_room.ensures.unchanged, c.in-Ok.ensures.found.0) at c.perform.ensures.moved in
    λ entry prepared. (refl, prepared.adds c.perform.result c.perform.new.self.situation move)

pub returns-clause-lines : goal.returns-clause-lines
returns-clause-lines g c =
    let move = rw (c.make_room.ensures.unchanged, c.in-Ok.ensures.found.0) at c.perform.ensures.moved in
    HoldsOn-taken c.args.self.now c.make_room.new.self c.perform.new.self c.args.step c.in-Ok.plan c.perform.result
    c.in-Ok.ensures.found c.make_room.ensures.unchanged c.make_room.ensures.lines c.perform.ensures.lines move

pub returns-clause-room : goal.returns-clause-room
returns-clause-room g c =
    let move = rw (c.make_room.ensures.unchanged, c.in-Ok.ensures.found.0) at c.perform.ensures.moved in
    KeepsRoom-taken c.args.self.now c.make_room.new.self c.perform.new.self c.args.step c.in-Ok.plan c.perform.result
    c.in-Ok.ensures.found c.make_room.ensures.unchanged c.make_room.ensures.lines c.perform.ensures.lines move c.make_room.ensures.room c.perform.ensures.room
