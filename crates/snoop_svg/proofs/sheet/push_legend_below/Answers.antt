use Rattle.snoop_svg.proofs.sheet.push_legend_below.Goals as goal

pub returns : goal.returns
returns c = rw c.row_y.ensures.value at c.push_legend.ensures
