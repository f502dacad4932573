use Rattle.snoop_states.proofs.{Common.{ℕ, append_assoc, Column, column_name, IfOk-equal, List, padded_text, rules, width_of}, TableLemmas.pieces_of}
use Rattle.snoop_states.proofs.table.push_names_line.Goals as goal

pub returns : goal.returns
returns c columns text has =
    let g : Column × List ℕ → List ℕ = λ p. padded_text (width_of c.args.widths p.0) (column_name p.0) in
    let names = pieces_of columns text c.args.cells.now has g in
    search (rules, append_assoc, IfOk-equal)
