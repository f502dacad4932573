use Rattle.snoop_versions.proofs.{Common.{ap, knows, Sees, Version, ◌∙◌}, Versions.enters}
use Rattle.snoop_versions.proofs.enter.enter_totals.Goals as goal

pub returns-in-Ok-clause-some : goal.returns-in-Ok-clause-some
returns-in-Ok-clause-some c =
    let w = knows c.in-Ok.reading.place in
    let s : Sees (knows c.args.reader.place) c.in-Ok.reading.part.value c.in-Ok.reading.part.value w = c.in-Ok.ensures.1 in
    let shown = ap (λ (x : Version). x.board) (c.get.ensures ∙ s.version) in
    rw c.leave.ensures.1 (enters c.requires s, c.totals-totals.ensures.board w.cores w.blocks w.words w.seen shown)
