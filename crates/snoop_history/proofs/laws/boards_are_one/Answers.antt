use Rattle.std.proofs.Common.{[]}
use Rattle.snoop_history.proofs.Boards.{absorbed_on}
use Rattle.snoop_history.proofs.laws.boards_are_one.Goals as goal

pub returns : goal.returns
returns c = λ cores blocks words items. absorbed_on cores blocks words [] items
