use Rattle.std.proofs.Common.{◌<◌, arith, lt-ltb, rules}
use Rattle.snoop_engine.proofs.AskerLemmas.{askers_at}
use Rattle.snoop_draw.proofs.panels.one_panel.Goals as goal

pub returns-in-Ok : goal.returns-in-Ok
returns-in-Ok c steps is =
    let low : c.args.block < c.args.shape.blocks = omega (arith, c.blocks-2.ensures.value, c.if-block-blocks.false) in
    let cores = rw (is, askers_at c.args.shape steps c.args.block low) at c.in_ok-cores.ensures in
    rw (lt-ltb c.args.block c.args.shape.blocks low, ← cores) (search rules)
