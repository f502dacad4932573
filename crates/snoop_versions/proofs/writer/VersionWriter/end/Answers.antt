use Rattle.snoop_versions.proofs.Common.{ap, sym, Version, ◌∙◌}
use Rattle.snoop_versions.proofs.writer.VersionWriter.end.Goals as goal

-- the board of what was taken, which is that of the published list
pub returns : goal.returns
returns g c =
    let taken = c.into_inner-last.ensures ∙ c.take.ensures in
    rw (sym c.self.view_is) (ap (λ (v : Version). v.board) (taken ∙ c.self.invariant.shown))
