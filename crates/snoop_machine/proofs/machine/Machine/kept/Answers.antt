use Rattle.snoop_machine.proofs.Common.{◌∙◌, ap, sym, stand, Standing, kept_is_flat}
use Rattle.snoop_machine.proofs.machine.Machine.kept.Goals as goal

pub returns-clause-current : goal.returns-clause-current
returns-clause-current c =
    let few = rw (c.shape.ensures ∙ ap (λ (s : Standing). s.situation.shape) (sym c.self.view_is)) at c.within_limits.ensures.words.1 in
    rw c.self.view_is at (kept_is_flat (stand c.self.inside.parts).situation c.self.invariant.inductive few c.args.core c.args.block c.args.word c.kept.result c.kept.ensures.outside c.kept.ensures.inside c.kept.ensures.readable)
