use Rattle.snoop_counts.proofs.{Common.{[], append-nil, frame_seen, happenings, sym}, LastLemmas.seen_on}
use Rattle.snoop_counts.proofs.whole_run.WholeRunView.see.Goals as goal

pub returns-in-Some : goal.returns-in-Some
returns-in-Some g c first frames before has next =
    let watched = c.in_ok-see.ensures _ _ frames before _ has.1.0 next c.log.ensures.items in
    let counted = c.add_all.ensures _ (happenings frames) (rw c.in-Some.is at has.1.1) in
    let more = rw (c.happenings.ensures, watched.1, ← seen_on [] frames (frame_seen before c.args.seen c.args.machine.now.situation)) at counted in
    ((has.0, (watched.0, more)), sym (append-nil c.args._out.now.items))
