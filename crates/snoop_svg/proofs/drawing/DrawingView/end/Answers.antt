use Rattle.snoop_svg.proofs.drawing.DrawingView.end.Goals as goal

pub returns : goal.returns
returns c first frames has run = rw (has.place, has.plan) at c.end_sheets.ensures
