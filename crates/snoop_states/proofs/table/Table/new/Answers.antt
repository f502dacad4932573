use Rattle.snoop_states.proofs.Common.{append_assoc, map-append, map-map, refl}
use Rattle.snoop_states.proofs.table.Table.new.Goals as goal

pub returns : goal.returns
returns c = record {
  cells = rw (c.in_ok-add_column-2.ensures, c.in_ok-add_column.ensures, c.in_ok-cells.ensures, map-append, map-map) (simp append_assoc);
  rows = c.new.ensures.items;
  is_shown = refl;
}
