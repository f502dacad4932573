use Rattle.std.proofs.Common.{append_assoc}
use Rattle.snoop_svg.proofs.drawing.push_next_sheet.Goals as goal

pub returns : goal.returns
returns c s same = rw (c.in_ok-turn_sheet.ensures, append_assoc) at (c.push_first_row.ensures s same)
