use Rattle.snoop_engine.proofs.AskerLemmas.{cores_at}
use Rattle.snoop_engine.proofs.askers.Askers.cores.Goals as goal

pub returns : goal.returns
returns c =
    let own = c.self.inside in
    rw (← c.self.view_is, cores_at own.cores c.args.block own.sets c.empty.result c.empty.ensures, ← c.get_or-askers.ensures) c.cores_in.ensures
