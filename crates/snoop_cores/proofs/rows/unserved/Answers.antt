use Rattle.snoop_cores.proofs.{Common.{get_or_default, IsServed, refl, Row, slice_index_or, subst, ℕ}, Performed.no_row}
use borrow.Author.Count.{below_more}
use Rattle.snoop_cores.proofs.rows.unserved.Goals as goal

pub loop-row-preserved : goal.loop-row-preserved
loop-row-preserved c = λ k d lt.
    let here : (d : Row) → IsServed c.args.seats.now (slice_index_or c.args.rows.now c.loop-row.row-index d) = λ d.
    subst (IsServed c.args.seats.now) (get_or_default c.args.rows.now c.loop-row.row-index no_row d c.loop-row-test.true) (c.if-not-serves.ensures.sound refl) in
    below_more (λ (k : ℕ). (d : Row) → IsServed c.args.seats.now (slice_index_or c.args.rows.now k d)) c.loop-row.row-index
    (λ k lt d. c.loop-row.invariant k d lt) here k lt d
