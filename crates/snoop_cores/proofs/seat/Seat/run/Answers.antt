use Rattle.snoop_cores.{proofs.{Common.{Ran, shown, subst, sym}, Performed.ran_noted}, specs.contracts.seat.Seat.the_view}
use Rattle.snoop_cores.proofs.seat.Seat.run.Goals as goal

pub returns-clause-ran : goal.returns-clause-ran
returns-clause-ran g c =
    let ran = subst (Ran c.run_rows-stop.result (shown c.args.rows.now) c.args.self.now) (sym c.self.view_is) c.run_rows-stop.ensures.ran in
    ran_noted c.run_rows-stop.result c.run_rows-stop.result (shown c.args.rows.now) c.args.self.now (the_view c.self.inside) ran
