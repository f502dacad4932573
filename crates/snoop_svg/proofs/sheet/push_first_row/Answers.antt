use Rattle.std.proofs.{Common.{append_assoc, rules}, lemmas.{List.Folds.flat_map-map, Result.IfOk-equal}}
use Rattle.snoop_svg.proofs.sheet.push_first_row.Goals as goal

pub returns : goal.returns
returns c s same =
    let cells = rw (same, flat_map-map) at c.push_first_cells.ensures in
    search (rules, IfOk-equal, append_assoc)
