-- What the table by word has counted.
-- Source: this project's profile.
use Rattle.std.specs.Prelude.{◌*◌, List}
use Rattle.snoop_trace.specs.Extent.{Extent}
use Rattle.snoop_counts.specs.{Sharers.HasMarked, Tally.HasCounted, declared.count.{Happening.Happening, Subjects.TheVariants.{Blocks, Words}}}
use Rattle.snoop_counts.specs.declared.count.Count.TheVariants as count
use Rattle.snoop_counts.specs.declared.word_tally.WordTally.{WordTally}

-- the counters of each word, and the cores that performed an operation on each block and word, a load of each word and a store in it
pub record CountsWords (shape : Extent) (seen : List Happening) (tally : WordTally) : Type 0 where
  pub rows : HasCounted (Words shape.words) (shape.blocks * shape.words) seen tally.counters
  pub shared : HasMarked Blocks count.Operations shape.blocks seen tally.shared
  pub cores : HasMarked (Words shape.words) count.Operations (shape.blocks * shape.words) seen tally.cores
  pub readers : HasMarked (Words shape.words) count.Loads (shape.blocks * shape.words) seen tally.readers
  pub writers : HasMarked (Words shape.words) count.Stores (shape.blocks * shape.words) seen tally.writers
