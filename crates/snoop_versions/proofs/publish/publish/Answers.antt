use Rattle.snoop_versions.proofs.{Common.{drop, knows}, Versions.{adds, ok_side, one_ready, publishes_on}}
use Rattle.snoop_versions.proofs.publish.publish.Goals as goal

pub publish_as-requires : goal.publish_as-requires
publish_as-requires g c next is =
    let w = c.args.writer in
    let (cores, blocks, words, p, history, within) = c.requires.publishing in
    let (entry, one) = one_ready (drop w.behind w.log.items) c.requires.one p.few in
    adds w.desk.place.id (knows w.desk.place) w.desk.shown.value next cores blocks words entry p.shown p.writing (rw one at history) (rw one at within) (rw one at is)

pub returns : goal.returns
returns g c =
    let ok = c.publish_as.ensures.succeeds tt in
    let values = ok_side _ c.publish_as.result.1 ok c.publish_as.ensures.values in
    let rule = ok_side _ c.publish_as.result.1 ok c.publish_as.ensures.rule in
    record {
      list = (publishes_on {w = knows c.publish_as.result.0.desk.place} c.requires.one rule values.0 c.requires.publishing.3).0;
      ready = values.1;
      publishing = λ cores blocks words p. (publishes_on c.requires.one rule values.0 p).1;
    }
