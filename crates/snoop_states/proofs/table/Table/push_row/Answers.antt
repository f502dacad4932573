use Rattle.snoop_states.proofs.Common.{ℕ, ◌∙◌, append-nil, append_assoc, below, cell_text, Column, List, padded_text, refl, width_of}
use Rattle.snoop_states.proofs.TableLemmas.{cells_of, pieces_of}
use Rattle.snoop_states.proofs.table.Table.push_row.Goals as goal

pub returns : goal.returns
returns c columns above has =
    let cells = cell_text c.args.machine.now.situation c.args.block in
    let g : Column × List ℕ → List ℕ = λ p. padded_text (width_of c.args.widths p.0) (below p.1 (cells p.0)) in
    let made = rw c.deref.ensures.value at c.in_ok-self.ensures in
    record {
      cells = made.cells ∙ cells_of columns above c.args.self.now.cells.items has cells;
      rows = made.text ∙ rw (c.in_ok-push_number.ensures, pieces_of columns above c.args.self.now.cells.items has g, append-nil) (append_assoc c.args.self.now.rows.items _ _);
      is_shown = refl;
    }
