use Rattle.snoop_cores.proofs.Common.{All-get_or, AreDealt, arith, get_or, get_or_default, length, length-set, refl, Row, subst, sym, take_all, ◌<◌, ◌∙◌}
use Rattle.snoop_cores.proofs.Performed.{no_row, dealt_more}
use Rattle.snoop_cores.proofs.deal.deal.Goals as goal

pub loop-row-preserved : goal.loop-row-preserved
loop-row-preserved c =
    let row : Row = get_or c.args.rows.now c.loop-row.row-index no_row in
    let few : row.core < c.args.cores = All-get_or (λ (row : Row). row.core < c.args.cores) c.args.rows.now c.loop-row.row-index no_row c.loop-row-test.true c.requires in
    let count = c.loop-row.invariant.0 in
    let inside : row.core < length c.loop-row.dealt.items = omega (arith, few, count) in (
      length-set c.loop-row.dealt.items row.core c.push.new.self ∙ count,
      dealt_more c.args.rows.now c.loop-row.row-index no_row c.loop-row.dealt.items _ c.index_mut.result.now c.push.new.self c.loop-row-test.true refl inside (get_or_default c.loop-row.dealt.items row.core _ c.index_mut.result.now inside ∙ sym c.index_mut.ensures.value) c.in_ok-push.ensures.items c.loop-row.invariant.1,
    )

pub returns-clause-dealt : goal.returns-clause-dealt
returns-clause-dealt c = subst (λ rows. AreDealt rows c.loop-row.dealt.items) (take_all c.loop-row.row-index c.args.rows.now c.loop-row-test.false) c.loop-row.invariant.1
