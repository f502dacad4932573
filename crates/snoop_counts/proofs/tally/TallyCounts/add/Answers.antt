use Rattle.snoop_counts.proofs.{Common.ap, TallyLemmas.{counted_more, done_to_others}}
use Rattle.snoop_counts.proofs.tally.TallyCounts.add.Goals as goal

pub returns-in-Line : goal.returns-in-Line
returns-in-Line c whose seen before =
    rw (c.count.ensures, c.add_own.ensures) (rw (ap done_to_others c.in-Line.is) at (counted_more whose.0 whose.1 seen c.args.happening.now c.args.self.now before))

pub returns-in-Item : goal.returns-in-Item
returns-in-Item c whose seen before =
    rw (c.count-in-Item.ensures, c.add_own.ensures) (rw (ap done_to_others c.in-Item.is) at (counted_more whose.0 whose.1 seen c.args.happening.now c.args.self.now before))
