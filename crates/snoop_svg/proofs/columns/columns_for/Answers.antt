use Rattle.std.proofs.{Common.{ap, append_assoc, arith}, lemmas.List.drop_more}
use Rattle.snoop_draw.specs.Size.{columns_of}
use Rattle.snoop_svg.proofs.LayoutLemmas.{after_lanes_near}
use Rattle.snoop_svg.proofs.columns.columns_for.Goals as goal

pub add_panel-requires-clause-room : goal.add_panel-requires-clause-room
add_panel-requires-clause-room c =
    let left = rw (← c.panel-item.is) at (drop_more c.args.panels.now c.loop-panel.panel-index c.panel-item.result c.loop-panel-test.true) in
    omega (arith, ap columns_of left, c.loop-panel.invariant.room)

pub loop-panel-preserved : goal.loop-panel-preserved
loop-panel-preserved c =
    let left = rw (← c.panel-item.is) at (drop_more c.args.panels.now c.loop-panel.panel-index c.panel-item.result c.loop-panel-test.true) in
    let near = after_lanes_near c.args.sizes c.requires.narrow c.loop-panel.x c.panel-item.result.cores in
    rw c.in_ok-x.ensures.next (record {
      columns = rw (c.in_ok-x.ensures.columns, append_assoc) (rw left at c.loop-panel.invariant.columns);
      next = rw left at c.loop-panel.invariant.next;
      room = omega (arith, ap columns_of left, near, c.requires.narrow.bus, c.requires.narrow.memory, c.loop-panel.invariant.room);
    })
