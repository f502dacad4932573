use Rattle.snoop_counts.proofs.LawLemmas.{sums_of_words}
use Rattle.snoop_counts.proofs.laws.words.Goals as goal

pub returns : goal.returns
returns c protocol shape steps frames final are = sums_of_words protocol shape frames final are.run
