use Rattle.snoop_engine.proofs.{Common.{append-nil, sym, all_lines, frame_seen}, ViewLemmas.all_lines_more}
use Rattle.snoop_engine.proofs.counts.TallyView.see.Goals as goal

pub returns : goal.returns
returns c first frames before has next =
    let more = all_lines_more frames (frame_seen before c.args.seen c.args.arg3.now.situation) in
    (rw (next.lines, more) at (c.add_all.ensures (all_lines frames) has), sym (append-nil c.args.arg2.now.items))
