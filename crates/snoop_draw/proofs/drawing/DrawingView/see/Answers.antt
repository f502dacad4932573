use Rattle.std.proofs.lemmas.Result.{on_ok_weaker}
use Rattle.snoop_draw.proofs.drawing.DrawingView.see.Goals as goal

pub returns : goal.returns
returns c first frames before has next = on_ok_weaker c.push_rows.result (λ e. (has, e)) (rw (has, next.number, next.block, next.lines) at c.push_rows.ensures)
