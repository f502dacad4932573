use Rattle.snoop_states.proofs.{Common.{◌<◌, ◌≤◌, arith}, TableLemmas.each_mapped}
use Rattle.snoop_states.proofs.tables.start_tables.Goals as goal

pub loop-block-init : goal.loop-block-init
loop-block-init c columns are = each_mapped are (λ block table low is chosen. record { begun = λ below. absurd (omega arith); rest = λ _. is chosen })

pub loop-block-preserved : goal.loop-block-preserved
loop-block-preserved c columns are =
    let low : c.loop-block.block < c.args.machine.now.situation.shape.blocks = omega (arith, rw c.shape.ensures at c.blocks-block-end.ensures.value) in
    c.in_ok-start_table.ensures columns (c.loop-block.invariant columns are) low

pub returns : goal.returns
returns c columns are =
    let all : c.args.machine.now.situation.shape.blocks ≤ c.loop-block.block = omega (arith, rw c.shape.ensures at c.blocks-block-end.ensures.value) in
    each_mapped (c.loop-block.invariant columns are) (λ block table low is chosen. (is chosen).begun (omega arith))
