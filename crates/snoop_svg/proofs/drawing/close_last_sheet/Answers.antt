use Rattle.snoop_svg.proofs.drawing.close_last_sheet.Goals as goal

pub returns : goal.returns
returns c = rw (c.protocol.ensures, c.sheet_rows-rows.ensures.value, c.sheet_start.ensures) at c.close_sheet.ensures
