use Rattle.std.proofs.Common.{length, drop, arith, ◌≤◌}
use Rattle.snoop_trace.proofs.{Common.{length-drop, slice-end}, OutputLemmas.{stopped, took_more}}
use Rattle.snoop_trace.proofs.streams.source_and_sink.write_whole.Goals as goal

pub loop-at-preserved : goal.loop-at-preserved
loop-at-preserved g c =
    let bound : c.in-Ok.taken ≤ length (drop c.loop-at.at c.args.text.now) = rw (slice-end c.args.text.now c.loop-at.at) at c.in-Ok.ensures.bound in (
      omega (arith, length-drop c.loop-at.at c.args.text.now, bound, c.loop-at.invariant.0),
      took_more (g.W.Write.contents c.args.writer.now) (g.W.Write.contents c.loop-at.writer) (g.W.Write.contents c.put.new.self) c.args.text.now c.loop-at.at c.in-Ok.taken
          c.loop-at.invariant.1 c.in-Ok.ensures.bytes,
      λ none. (c.in-Ok.ensures.noted (c.loop-at.invariant.2 none)).1 (λ failed. cc),
    )

pub returns-in-Err-clause-front : goal.returns-in-Err-clause-front
returns-in-Err-clause-front g c =
    stopped (g.W.Write.contents c.args.writer.now) (g.W.Write.contents c.loop-at.writer) (g.W.Write.contents c.put.new.self) c.args.text.now c.loop-at.at
    c.loop-at.invariant.1 c.in-Err.ensures.bytes
