use Rattle.snoop_blocks.proofs.CoreSets.{no_cores}
use Rattle.snoop_blocks.proofs.core_set.CoreSet.empty.Goals as goal

pub returns : goal.returns
returns c = no_cores c.default.result c.default.ensures
