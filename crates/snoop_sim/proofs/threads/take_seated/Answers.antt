use Rattle.std.proofs.Common.{rules, ◌≡◌, Ok, sym, subst}
use Rattle.snoop_trace.specs.Extent.{IsWithinLimits}
use Rattle.snoop_sim.specs.{ThreadsFault.IsOfThreads, declared.fault.ThreadsFault.TheVariants.Run}
use Rattle.snoop_sim.proofs.Threading.{begun, first_refused, named, threaded, turned}
use Rattle.snoop_sim.proofs.threads.take_seated.Goals as goal

pub returns-clause-ok : goal.returns-clause-ok
returns-clause-ok g c =
    let ran : c.run_seats.result ≡ Ok c.in_ok-stops.stops = (let a = c.map_err.ensures.cases in let b = c.in_ok-stops.was in search rules) in
    let joined : c.gather.result ≡ Ok c.in_ok-gathered.gathered = (let a = c.map_err-2.ensures.cases in let b = c.in_ok-gathered.was in search rules) in
    threaded c.args.shared.now.protocol c.args.shared.now.shape c.args.rows.now c.in_ok-stops.stops.items c.args.seats.now c.run_seats.new.seats c.in_ok-gathered.gathered.log.items _
    c.requires.seats (rw ran at c.run_seats.ensures.stops) c.run_seats.ensures.len (rw ran at c.run_seats.ensures.ran) (rw c.deref.ensures.value at c.in_ok-check_stops.ensures.ok) (rw joined at c.gather.ensures.ok)

pub returns-in_err-stops-clause-err : goal.returns-in_err-stops-clause-err
returns-in_err-stops-clause-err g c =
    let refused = named c.run_seats.result c.map_err.result Run c.in_err-stops.field-0.0 c.map_err.ensures.cases c.in_err-stops.was in
    turned c.from_residual.result c.in_err-stops.field-0.0 c.from_residual.ensures.1
    (subst IsOfThreads (sym refused.1.1)
    (begun c.args.shared.now.shape c.args.seats.now c.args.rows.now refused.0 c.requires.seats c.requires.rows (rw refused.1.0 at c.run_seats.ensures.denied)))

pub returns-in_err-check_stops-clause-err : goal.returns-in_err-check_stops-clause-err
returns-in_err-check_stops-clause-err g c =
    let ran : c.run_seats.result ≡ Ok c.in_ok-stops.stops = (let a = c.map_err.ensures.cases in let b = c.in_ok-stops.was in search rules) in
    let limits : IsWithinLimits c.args.shared.now.shape = subst IsWithinLimits c.shape.ensures c.within_limits.ensures in
    turned c.from_residual-in_err-check_stops.result c.in_err-check_stops.field-0.0 c.from_residual-in_err-check_stops.ensures.1
    (first_refused c.args.shared.now.shape c.args.rows.now c.in_ok-stops.stops.items c.args.seats.now c.run_seats.new.seats c.in_err-check_stops.field-0.0 limits c.requires.seats
    (rw ran at c.run_seats.ensures.stops) c.requires.rows (rw ran at c.run_seats.ensures.ran) (rw c.deref.ensures.value at c.in_err-check_stops.ensures.err))
