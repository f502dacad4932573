use Rattle.snoop_cores.proofs.Joining.{joins}
use Rattle.snoop_cores.proofs.gathering.join.Goals as goal

pub returns-clause-ok : goal.returns-clause-ok
returns-clause-ok c =
    joins c.args.bench.now c.args.seats.now c.in-Ok.gathered.log.items c.in-Ok.gathered.steps.items
    c.kept.ensures.kept c.kept.ensures.safe c.turns_are_served.ensures.comes_to_rest c.taken_once.ensures
    c.requires c.in_default.ensures.none (rw (c.cores.ensures.value, c.shape.ensures, c.log.ensures.items) at c.in_default-difference.ensures.none)
    c.in-Ok.ensures.log c.in-Ok.ensures.steps
