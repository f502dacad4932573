use Rattle.std.proofs.Common.{◌≡◌, ◌≤◌, length, take, Some, false, ◌-◌}
use Rattle.snoop_trace.proofs.Common.{Appends, steps_text}
use Rattle.snoop_trace.proofs.output.write_records.Given as goal

-- the first records were written, and no write has failed
abbrev pub invariant-loop-at : goal.invariant-loop-at
invariant-loop-at g l = (l.at ≤ length l.steps) × Appends (g.W.Write.contents l.fn.writer) (g.W.Write.contents l.writer) (steps_text l.shape (take l.at l.steps))
    × (g.W.Sink.failed l.fn.writer ≡ Some false → g.W.Sink.failed l.writer ≡ Some false)

abbrev pub decreases-loop-at : goal.decreases-loop-at
decreases-loop-at g l = length l.steps - l.at
