use Rattle.std.proofs.{Common.{append_assoc, rules}, lemmas.{List.Folds.flat_map-map, Simd.map-map}}
use Rattle.snoop_svg.proofs.sheet.push_row.Goals as goal

pub returns-clause-cells : goal.returns-clause-cells
returns-clause-cells c s same = rw (same, map-map) at c.in_ok-shown.ensures.cells

pub returns-clause-text : goal.returns-clause-text
returns-clause-text c s same =
    let cells = rw (same, flat_map-map) at c.in_ok-shown.ensures.text in
    search (rules, append_assoc)
