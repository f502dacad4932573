use Rattle.std.proofs.lemmas.Bool.{cases_eq}
use Rattle.snoop_states.proofs.{Common.{◌∙◌, ◌≡◌, arith, both_ways, get_or, inl, inr, on_ok_weaker, sym}, TableLemmas.{each_mapped, each_set}}
use Rattle.snoop_states.proofs.tables.start_table.Goals as goal

pub returns-else-has_block : goal.returns-else-has_block
returns-else-has_block c columns half low =
    each_mapped half (λ k table inside is chosen. record {
      begun = λ below. elim (cases_eq k c.args.block) [
        | inl same ↦ absurd (both_ways _ (sym c.has_block.ensures ∙ c.if-has_block.false) (rw same at chosen))
        | inr apart ↦ (is chosen).begun (omega arith)
      ];
      rest = λ high. (is chosen).rest (omega arith);
    })

pub returns-then-at-len : goal.returns-then-at-len
returns-then-at-len c columns half low =
    let block = c.args.block in
    let was = c.index_mut.result.now in
    let same : was ≡ get_or c.args.tables.now.items block was = c.index_mut.ensures.value in
    on_ok_weaker c.start.result
    (λ starts. each_set half block c.start.new.self low
    (λ chosen. record {
      begun = λ _. starts (columns block) (((rw (← same) at (half.each block low was)) chosen).rest (omega arith));
      rest = λ high. absurd (omega arith);
    })
    (λ k table apart is chosen. record { begun = λ below. (is chosen).begun (omega arith); rest = λ high. (is chosen).rest (omega arith) }))
    c.start.ensures
