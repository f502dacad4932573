use Rattle.snoop_versions.proofs.writer.VersionWriter.publish.Goals as goal

pub replace_with-requires : goal.replace_with-requires
replace_with-requires g c =
    let shape = c.self.inside.shape in
    let some = c.has_pending_operations.ensures.0 c.if-has_pending_operations.true in
    (some, (shape.cores, shape.blocks, shape.words, c.self.invariant, rw (← c.self.view_is) at c.requires.history, rw (← c.self.view_is) at c.requires.within))
