use Rattle.snoop_versions.proofs.{Common.{ap, inside_all, knows, Sees, Version, ◌∙◌}, Versions.enters}
use Rattle.snoop_versions.proofs.enter.enter_own.Goals as goal

pub returns-in-Ok-clause-some : goal.returns-in-Ok-clause-some
returns-in-Ok-clause-some c =
    let w = knows c.in-Ok.reading.place in
    let s : Sees (knows c.args.reader.place) c.in-Ok.reading.part.value c.in-Ok.reading.part.value w = c.in-Ok.ensures.1 in
    let shown = ap (λ (x : Version). x.board) (c.get.ensures ∙ s.version) in
    let whole = inside_all w.cores w.blocks w.words w.seen s.within in
    rw c.leave.ensures.1 (enters c.requires s, rw whole at (c.count.ensures.board w.cores w.blocks w.words w.seen shown), rw whole at (c.last.ensures.board w.cores w.blocks w.words w.seen shown))
