use Rattle.std.proofs.Common.{refl, ◌∙◌, Some, ap}
use Rattle.snoop_history.proofs.Marks.{marked-before, unmarked, is_inside, mark_read}
use Rattle.snoop_history.proofs.board.TouchedBlocks.mention.Goals as goal

pub put_last-requires-clause-unmarked : goal.put_last-requires-clause-unmarked
put_last-requires-clause-unmarked c =
    let t = c.self.inside in
    let free = mark_read t c.self.view_is c.requires c.index.result.now c.index.ensures ∙ ap Some c.if-not-index.true in
    rw (← c.self.view_is) (unmarked t.marks.items t.order.keys c.self.invariant.marks c.args.block (is_inside t c.self.view_is c.requires) free)

pub returns-else-not-index : goal.returns-else-not-index
returns-else-not-index c =
    let t = c.self.inside in
    let set = mark_read t c.self.view_is c.requires c.index.result.now c.index.ensures ∙ ap Some c.if-not-index.false in
    let same = marked-before t.marks.items t.order.keys c.args.block c.self.invariant.marks (is_inside t c.self.view_is c.requires) set in
    rw (← c.self.view_is, same) refl
