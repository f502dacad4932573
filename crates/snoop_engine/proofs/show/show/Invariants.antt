use Rattle.snoop_engine.proofs.{Common.◌≡◌, Common.{Some, false, ArePossibleHolders}, ShownLemmas.Showing}
use Rattle.snoop_engine.proofs.show.show.Given as goal

-- so many steps were taken and seen, what was shown of them was written or stands in the chunk, no write has failed, and the possible_holders are those of the machine
abbrev pub invariant-loop-step : goal.invariant-loop-step
invariant-loop-step g l =
    let s = g.C.Course.situation l.fn.course in
    Showing s.protocol l.fn.shape (g.V.View.heading l.fn.view) (g.V.View.shows l.fn.view) (λ p s frames. g.V.View.has_seen l.fn.view p s frames l.view) l.number
    (g.C.Course.leads l.fn.course) (g.C.Course.leads l.course) (g.C.Course.situation l.course) (g.W.Write.contents l.fn.writer) (g.W.Write.contents l.writer) l.chunk.items
    × (g.W.Sink.failed l.fn.writer ≡ Some false → g.W.Sink.failed l.writer ≡ Some false) × ArePossibleHolders (g.C.Course.situation l.course) l.possible_holders.sets

abbrev pub decreases-loop-step : goal.decreases-loop-step
decreases-loop-step g l = g.C.Course.left l.course
