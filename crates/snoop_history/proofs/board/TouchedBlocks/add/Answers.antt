use Rattle.std.proofs.Common.{◌∙◌, arith, sym}
use Rattle.snoop_history.proofs.{Pushed.none_from_not_some, Touching.touched-add}
use Rattle.snoop_history.proofs.board.TouchedBlocks.add.Goals as goal

pub returns-in-Some-clause-order : goal.returns-in-Some-clause-order
returns-in-Some-clause-order c items is = touched-add items c.args.item is c.block.ensures (sym c.in-Some.is ∙ c.did.ensures) (grind arith)

pub returns-in_default-clause-order : goal.returns-in_default-clause-order
returns-in_default-clause-order c items is =
    touched-add items c.args.item is c.block.ensures (sym (none_from_not_some _ c.in_default.not-Some) ∙ c.did.ensures) (grind arith)
