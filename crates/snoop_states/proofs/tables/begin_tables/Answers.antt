use Rattle.snoop_states.proofs.{Common.{◌≡◌, arith, columns_in}, TableLemmas.{begun_at_reset, each_mapped}}
use Rattle.snoop_states.proofs.tables.begin_tables.Goals as goal

pub returns-in_ok-start_tables : goal.returns-in_ok-start_tables
returns-in_ok-start_tables c at_reset =
    let one : c.args.choice.from ≡ 1 = omega (arith, c.from.ensures.value) in
    let empty = rw c.shape.ensures at c.in_ok-tables.ensures in
    each_mapped (c.in_ok-start_tables.ensures (columns_in c.args.askers.now) (each_mapped empty (λ block table low is chosen. is)))
    (λ block table low has chosen. begun_at_reset one at_reset (has chosen))
