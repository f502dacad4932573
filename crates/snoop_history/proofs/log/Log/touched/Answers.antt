use Rattle.std.proofs.Common.{ap, ◌∙◌}
use Rattle.snoop_history.specs.{declared.log.Log.TheInside.Inside, Journal.Journal}
use Rattle.snoop_history.proofs.log.Log.touched.Goals as goal

pub returns-clause-within : goal.returns-clause-within
returns-clause-within c =
    let blocks = ap (λ (l : Inside). l.touched.blocks) c.self-inside.view_is ∙ c.self.invariant.as_many ∙ ap (λ (log : Journal). log.blocks) c.self.view_is in
    rw (c.as_slice.ensures.keys, ← blocks) c.self-inside.invariant.marks.within
