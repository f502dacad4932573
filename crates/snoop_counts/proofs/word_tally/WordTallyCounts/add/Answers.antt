use Rattle.snoop_counts.proofs.Common.{◌*◌, Blocks, Words}
use Rattle.snoop_counts.specs.declared.count.Count.TheVariants as count
use Rattle.snoop_counts.proofs.word_tally.WordTallyCounts.add.Goals as goal

pub returns : goal.returns
returns c shape seen far = record {
  rows = c.add.ensures (Words shape.words, shape.blocks * shape.words) seen far.rows;
  shared = c.add-2.ensures Blocks count.Operations shape.blocks seen far.shared;
  cores = c.add-3.ensures (Words shape.words) count.Operations (shape.blocks * shape.words) seen far.cores;
  readers = c.add-4.ensures (Words shape.words) count.Loads (shape.blocks * shape.words) seen far.readers;
  writers = c.add-5.ensures (Words shape.words) count.Stores (shape.blocks * shape.words) seen far.writers;
}
