use Rattle.std.proofs.Common.{◌≡◌, ◌<◌, [], arith}
use Rattle.snoop_engine.{proofs.{AskerLemmas.askers_at, RangeLemmas.range_piece}, specs.Askers.askers}
use Rattle.snoop_draw.specs.Panels.{panel_with}
use Rattle.snoop_draw.proofs.panels.all_panels.Goals as goal

pub loop-block-preserved : goal.loop-block-preserved
loop-block-preserved c steps is =
    let block = c.loop-block.block in
    let low : c.loop-block.block < c.args.shape.blocks = omega (arith, c.blocks-block-end.ensures.value) in
    range_piece (λ block. panel_with block (askers c.args.shape steps block)) c.loop-block.block [] _ _
    (c.loop-block.invariant steps is) (rw (c.in_ok-cores.ensures, is, askers_at c.args.shape steps block low) at c.in_ok-push_panel.ensures)

pub returns : goal.returns
returns c steps is =
    let all : c.loop-block.block ≡ c.args.shape.blocks = omega (arith, c.blocks-block-end.ensures.value) in
    rw (← all) (c.loop-block.invariant steps is)
