use Rattle.snoop_versions.proofs.{Common.{ap, Publishing, ◌∙◌}, Versions.ready_grows}
use Rattle.snoop_versions.proofs.writer.VersionWriter.prepare.Goals as goal

pub invariant_of-self : goal.invariant_of-self
invariant_of-self c =
    let none = ap (λ (p : Publishing). p.ready) c.self.view_is ∙ c.requires in
    rw c.append.ensures.desk (record {
      writing = c.self.invariant.writing;
      shown = c.self.invariant.shown;
      few = ready_grows c.append.result _ _ c.args.item c.append.ensures.pending none;
    })
