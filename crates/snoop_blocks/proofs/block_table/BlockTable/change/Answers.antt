use Rattle.std.{proofs.Common.{◌≡◌, arith}, specs.Prelude.slice_index_or}
use Rattle.snoop_blocks.proofs.Places.{seen-change}
use Rattle.snoop_blocks.proofs.block_table.BlockTable.change.Goals as goal

pub returns-else-place-eq0 : goal.returns-else-place-eq0
returns-else-place-eq0 g c =
    let at : slice_index_or c.self.inside.places.items c.args.block 0 ≡ c.in-Some.place =
    grind (arith, c.deref.ensures.value, c.get.ensures.lookup.4 (omega arith) 0, c.copied.ensures, c.in-Some.is) in
    seen-change _ c.self.invariant c.self.view_is c.args.block at c.if-place-eq0.false
    (g.C.Change.changed c.args.change) c.index_mut.result.now c.change-else-place-eq0.new.value c.index_mut.ensures.value c.change-else-place-eq0.ensures
