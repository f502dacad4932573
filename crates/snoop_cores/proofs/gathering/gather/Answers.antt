use Rattle.std.proofs.Common.{ℕ, List, ap, arith, sym, subst, Result, Err, IfErr}
use Rattle.snoop_cores.proofs.{Common.{Extent, IsHeld, Locked, OneForEach, RefusesGather, RefusesJoin, Seating}, Joining.{odd_one, not_odd}}
use Rattle.snoop_trace.specs.declared.protocol.Protocol.{Protocol}
use Rattle.snoop_cores.specs.declared.{gathering.Gathered.Gathered, fault.GatherFault.{GatherFault, TheVariants.NotAllSeats}}
use Rattle.snoop_cores.proofs.gathering.gather.Goals as goal

pub returns-in-Some-clause-not_all : goal.returns-in-Some-clause-not_all
returns-in-Some-clause-not_all g c = λ core odd.
    let some = rw (c.cores.ensures.value, c.shape.ensures) at c.in-Some.ensures.some in
    ap (λ (k : ℕ). Err (NotAllSeats k)) (odd_one c.args.shared.now.shape.cores c.args.seats.now c.in-Some.core core some odd)

pub returns-clause-not_all : goal.returns-clause-not_all
returns-clause-not_all g c = λ core odd.
    absurd (not_odd c.args.shared.now.shape.cores c.args.seats.now core (rw (c.cores.ensures.value, c.shape.ensures) at c.in_default.ensures.none) odd)

-- what refuses to join a bench of the machine refuses to gather
refuses : (protocol : Protocol) (shape : Extent) (seats : List Seating) (b : Locked) (answer : Result Gathered GatherFault) → OneForEach shape.cores seats → IsHeld protocol shape b → IfErr answer (RefusesJoin b seats) → IfErr answer (RefusesGather protocol shape seats)
refuses protocol shape seats b answer one_each held joined = grind arith

pub returns-clause-err : goal.returns-clause-err
returns-clause-err g c =
    refuses c.args.shared.now.protocol c.args.shared.now.shape c.args.seats.now c.bench.result.now c.join-joined.result
    (rw (c.cores.ensures.value, c.shape.ensures) at c.in_default.ensures.none)
    (subst (IsHeld c.args.shared.now.protocol c.args.shared.now.shape) (sym c.bench.ensures) c.lock-held.ensures) c.join-joined.ensures.err
