use Rattle.snoop_model.specs.Pictures.Situation.{reset}
use Rattle.snoop_counts.proofs.{Common.{frame_seen, on_ok_weaker, refl}, LastLemmas.led_by_last}
use Rattle.snoop_counts.proofs.watch.Watch.see.Goals as goal

pub returns : goal.returns
returns c protocol shape frames before after has next log =
    let frame = frame_seen before c.args.seen after in
    let item = rw (log, has.items before next.run) at c.item-item.ensures.value in
    let operation = rw item at c.operation_of-operation.ensures in
    let lines = c.in_ok-write_lines.ensures frames has.follows in
    on_ok_weaker c.follow.result
    (λ follows. (
      record { follows = follows; items = λ here run. rw (c.len-self.ensures, log, led_by_last frames frame (reset protocol shape) here run) refl },
      rw (c.in_ok-push_item.ensures, lines, item, operation, next.lines) refl,
    ))
    (c.follow.ensures frames frame has.follows next.number next.lines operation)
