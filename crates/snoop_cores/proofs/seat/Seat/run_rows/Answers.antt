use Rattle.snoop_cores.proofs.{Common.{[], arith, Bor, get_or-map, Grows, length, length-map, Row, shown, subst, sym, ◌<◌, ◌∷◌}, Performed.{no_row, did_row}}
use Rattle.snoop_cores.proofs.seat.Seat.run_rows.Goals as goal

pub loop-number-preserved : goal.loop-number-preserved
loop-number-preserved g c =
    let rows = c.args.rows.now in
    let few = c.loop-number-test.true in
    let long = length-map rows (λ (row : Bor Row). row.now) in
    let inside : c.loop-number.number < length (shown rows) = omega (arith, few, long) in
    did_row (shown rows) c.loop-number.number no_row c.args.self.now c.loop-number.self c.perform_row.new.self inside c.loop-number.invariant
    (subst (λ (row : Row). Grows (row ∷ []) c.loop-number.self c.perform_row.new.self) (sym (get_or-map (λ (row : Bor Row). row.now) rows c.loop-number.number _ no_row few)) c.in_default.ensures.ok)
