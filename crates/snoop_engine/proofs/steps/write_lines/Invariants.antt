use Rattle.snoop_engine.proofs.{Common.◌≡◌, Common.{Some, false}, WrittenLemmas.Writing}
use Rattle.snoop_engine.proofs.steps.write_lines.Given as goal

-- the lines of the steps so far were written or stand in the chunk, and no write has failed
abbrev pub invariant-loop-step : goal.invariant-loop-step
invariant-loop-step g l =
    Writing (g.C.Course.situation l.fn.course).protocol l.fn.shape (g.C.Course.leads l.fn.course) (g.C.Course.leads l.course) (g.C.Course.situation l.course) (g.W.Write.contents l.fn.writer) (g.W.Write.contents l.writer) l.chunk.items
    × (g.W.Sink.failed l.fn.writer ≡ Some false → g.W.Sink.failed l.writer ≡ Some false)

abbrev pub decreases-loop-step : goal.decreases-loop-step
decreases-loop-step g l = g.C.Course.left l.course
