use Rattle.snoop_svg.proofs.drawing.close_full_sheet.Goals as goal

pub returns : goal.returns
returns c = rw (c.protocol.ensures, c.rows_per_sheet.ensures.value) at c.close_sheet.ensures
