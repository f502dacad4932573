use Rattle.snoop_engine.proofs.{Common.◌≡◌, Common.{slice_get, arith, common_steps}, Driving.all_done}
use Rattle.snoop_engine.proofs.driver.Driver.whose_turn.Goals as goal

pub returns-clause-done : goal.returns-clause-done
returns-clause-done c =
    let first : c.copied.result ≡ slice_get c.self.inside.turns.items 0 = grind (arith, common_steps) in
    rw (← c.self.view_is) (all_done c.self.invariant _ first)
