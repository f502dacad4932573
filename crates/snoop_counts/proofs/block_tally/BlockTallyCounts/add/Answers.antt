use Rattle.snoop_counts.proofs.Common.{Blocks}
use Rattle.snoop_counts.specs.declared.count.Count.TheVariants as count
use Rattle.snoop_counts.proofs.block_tally.BlockTallyCounts.add.Goals as goal

pub returns : goal.returns
returns c blocks seen far = record {
  rows = c.add.ensures (Blocks, blocks) seen far.rows;
  named = c.add-2.ensures Blocks count.Lines blocks seen far.named;
  readers = c.add-3.ensures Blocks count.Loads blocks seen far.readers;
  writers = c.add-4.ensures Blocks count.Stores blocks seen far.writers;
}
