use Rattle.snoop_engine.proofs.Common.{[], ◌∷◌, ◌++◌, None, append_assoc, get_or, take, take_more, I, take_all, Core}
use Rattle.snoop_engine.proofs.tally.Tally.add_all.Goals as goal

pub loop-line-preserved : goal.loop-line-preserved
loop-line-preserved c lines far =
    let more = c.args.more.now in
    let i = c.loop-line.line-index in
    rw (take_more more i (Core 0 0 None I) c.loop-line-test.true, ← append_assoc lines (take i more) (get_or more i (Core 0 0 None I) ∷ [])) (c.add.ensures (lines ++ take i more) (c.loop-line.invariant lines far))

pub returns : goal.returns
returns c lines far = rw (take_all c.loop-line.line-index c.args.more.now c.loop-line-test.false) at (c.loop-line.invariant lines far)
