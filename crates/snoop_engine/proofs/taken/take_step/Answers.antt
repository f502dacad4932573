use Rattle.snoop_engine.proofs.{Common.ArePossibleHolders, taken.take_step.Goals.{then-not-is_bus_taken+in_ok-add_taken, else-not-is_bus_taken}}
use Rattle.snoop_engine.proofs.taken.take_step.Goals as goal

pub returns-in-Ok-clause-possible_holders : goal.returns-in-Ok-clause-possible_holders
returns-in-Ok-clause-possible_holders g c =
    let s = g.C.Course.situation c.args.course.now in
    let are : ArePossibleHolders s c.if-not-is_bus_taken.possible_holders.sets = elim c.if-not-is_bus_taken.branch [
      | then-not-is_bus_taken+in_ok-add_taken w ↦ rw w.possible_holders-is (rw c.machine-machine.ensures at w.add_taken.ensures.possible_holders)
      | else-not-is_bus_taken w ↦ rw w.possible_holders-is c.requires.possible_holders
    ] in
    c.follow.ensures s (g.C.Course.situation c.take.new.self) _ are (rw (c.shape.ensures, c.machine-machine.ensures) at c.within_limits.ensures.cores.1) (rw c.in-Ok.is at c.in_ok-outcome.ensures.goes)
