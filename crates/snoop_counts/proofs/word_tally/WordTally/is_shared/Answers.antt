use Rattle.snoop_counts.{proofs.Common.{Blocks, refl}, specs.declared.count.Count.TheVariants.Operations}
use Rattle.snoop_counts.proofs.word_tally.WordTally.is_shared.Goals as goal

pub returns : goal.returns
returns c shape seen far there same = rw (c.of.ensures Blocks Operations shape.blocks seen far.shared there c.requires, same) refl
