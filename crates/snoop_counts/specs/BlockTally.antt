-- What the table by block has counted.
-- Source: this project's profile.
use Rattle.std.specs.Prelude.{ℕ, List}
use Rattle.snoop_counts.specs.{Sharers.HasMarked, Tally.HasCounted, declared.{block_tally.BlockTally.BlockTally, count.Happening.Happening}}
use Rattle.snoop_counts.specs.declared.count.Count.TheVariants as count
use Rattle.snoop_counts.specs.declared.count.Subjects.TheVariants.{Blocks}

-- the counters, and the cores that a line names, that loaded and that stored, of so many blocks, after this has happened
pub record CountsBlocks (blocks : ℕ) (seen : List Happening) (tally : BlockTally) : Type 0 where
  pub rows : HasCounted Blocks blocks seen tally.tally
  pub named : HasMarked Blocks count.Lines blocks seen tally.named
  pub readers : HasMarked Blocks count.Loads blocks seen tally.readers
  pub writers : HasMarked Blocks count.Stores blocks seen tally.writers
