use Rattle.std.proofs.Common.{rules, ◌≡◌, Ok}
use Rattle.snoop_sim.proofs.Threading.{steps_written}
use Rattle.snoop_sim.proofs.threads.simulate_threads.Goals as goal

pub returns-clause-does : goal.returns-clause-does
returns-clause-does g c =
    let read : c.read_rows.result ≡ Ok c.in_ok-rows.rows = (let a = c.map_err.ensures.cases in let b = c.in_ok-rows.was in search rules) in
    steps_written c.args.protocol c.args.shape _ c.in_ok-rows.rows.items c.in_ok-steps.steps.items c.write_steps.result c.map_err-2.result _ _ c.map_err-2.ensures.cases
    (rw read at c.read_rows.ensures.read) c.in_ok-steps.ensures.ok (rw c.deref.ensures.value at c.write_steps.ensures.read) (rw c.deref.ensures.value at c.write_steps.ensures.ok) (rw c.deref.ensures.value at c.write_steps.ensures.front)
