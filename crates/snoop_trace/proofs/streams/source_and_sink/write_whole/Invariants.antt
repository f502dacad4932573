use Rattle.std.{proofs.Common.{◌≡◌, ◌≤◌, length, take, Some, false, ◌-◌}, specs.Io.KnownBytes.Appends}
use Rattle.snoop_trace.proofs.streams.source_and_sink.write_whole.Given as goal

-- the front was written, and no write has failed
abbrev pub invariant-loop-at : goal.invariant-loop-at
invariant-loop-at g l = (l.at ≤ length l.text) × Appends (g.W.Write.contents l.fn.writer) (g.W.Write.contents l.writer) (take l.at l.text)
    × (g.W.Sink.failed l.fn.writer ≡ Some false → g.W.Sink.failed l.writer ≡ Some false)

abbrev pub decreases-loop-at : goal.decreases-loop-at
decreases-loop-at g l = length l.text - l.at
