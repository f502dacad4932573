use Rattle.std.proofs.Common.{eq-eqb, ne_eqb}
use Rattle.snoop_states.proofs.Common.{◌+◌, ◌<◌, ◌≡◌, arith, get_or, Grows, length, line_text, on_ok_weaker, refl, sym, true}
use Rattle.snoop_states.proofs.TableLemmas.{each_mapped, each_set, table_grows, table_starts, table_stays}
use Rattle.snoop_states.proofs.tables.show_step.Goals as goal

pub returns-then-number-from : goal.returns-then-number-from
returns-then-number-from c protocol columns frames frame after step outcome counted of are =
    let first : c.args.choice.from ≡ 2 + length frames = omega (arith, c.from.ensures.value, c.from.ensures.within) in
    on_ok_weaker c.start_tables.result
    (λ begun. each_mapped begun (λ block table low has chosen. table_starts frames frame first after (has chosen)))
    (c.start_tables.ensures columns (each_mapped are (λ block table low is chosen. (is chosen).early (omega arith))))

pub returns-in-None : goal.returns-in-None
returns-in-None c protocol columns frames frame after step outcome counted of are =
    let other : c.args.choice.from ≡ 2 + length frames → ⊥ = λ e. omega (arith, c.from.ensures.value, c.from.ensures.within, c.if-number-from.false) in
    let none = rw (of, counted) at (sym c.in-None.ensures) in
    each_mapped are (λ block table low is chosen. table_stays (is chosen) frame _ chosen none other refl)

pub returns-then-at-len : goal.returns-then-at-len
returns-then-at-len c protocol columns frames frame after step outcome counted of are =
    let block = c.in-Some.block in
    let was = c.index_mut.result.now in
    let same : was ≡ get_or c.args.tables.now.items block was = c.index_mut.ensures.value in
    let low : block < c.args.machine.now.situation.shape.blocks = omega (arith, are.count) in
    let other : c.args.choice.from ≡ 2 + length frames → ⊥ = λ e. omega (arith, c.from.ensures.value, c.from.ensures.within, c.if-number-from.false) in
    let some = rw (of, counted) at (sym c.in-Some.ensures) in
    let shape = c.args.machine.now.situation.shape in
    on_ok_weaker c.push_step.result
    (λ grows.
    let grown : Grows c.args.widths frame.after block (1 + length frames) (line_text shape frame.step frame.outcome) true was c.push_step.new.self =
    rw (after, step, outcome, ← counted) grows in
    each_set are block c.push_step.new.self low
    (λ chosen. table_grows ((rw (← same) at (are.each block low was)) chosen) frame _ chosen some (eq-eqb block block refl) grown)
    (λ k table apart is chosen. table_stays (is chosen) frame _ chosen some other (ne_eqb block k (λ e. apart (sym e)))))
    c.push_step.ensures

pub returns-else-at-len : goal.returns-else-at-len
returns-else-at-len c protocol columns frames frame after step outcome counted of are =
    let block = c.in-Some.block in
    let other : c.args.choice.from ≡ 2 + length frames → ⊥ = λ e. omega (arith, c.from.ensures.value, c.from.ensures.within, c.if-number-from.false) in
    let some = rw (of, counted) at (sym c.in-Some.ensures) in
    each_mapped are (λ k table low is chosen. table_stays (is chosen) frame _ chosen some other (ne_eqb block k (λ e. absurd (omega (arith, are.count)))))
