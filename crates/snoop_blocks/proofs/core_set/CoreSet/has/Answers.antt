use Rattle.std.proofs.{Common.refl, lemmas.Bool.le-ltb}
use Rattle.snoop_blocks.{specs.CoreSet.has, proofs.CoreSets.has_past}
use Rattle.snoop_blocks.proofs.core_set.CoreSet.has.Goals as goal

pub returns-then-core-lt256 : goal.returns-then-core-lt256
unfolding has
returns-then-core-lt256 c = rw (← c.self.view_is) refl

pub returns-else-core-lt256 : goal.returns-else-core-lt256
returns-else-core-lt256 c =
    rw (← c.self.view_is, has_past c.self.inside.words c.args.core c.self.invariant c.if-core-lt256.false) (le-ltb c.args.core 256 c.if-core-lt256.false)
