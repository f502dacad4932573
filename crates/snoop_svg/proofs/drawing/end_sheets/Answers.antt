use Rattle.std.proofs.Common.{append_assoc}
use Rattle.snoop_svg.proofs.drawing.end_sheets.Goals as goal

pub returns : goal.returns
returns c = rw (c.in_ok-close_last_sheet.ensures, append_assoc) at c.push_plan_tail.ensures
