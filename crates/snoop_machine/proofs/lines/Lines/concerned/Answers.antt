use Rattle.snoop_machine.proofs.{Common.{[], refl, ◌∙◌, arith, slice_index_or, get_or_default, AreHolders, no_holders}, LineMaps.{in_rows, row_seen, line_seen}}
use Rattle.snoop_machine.proofs.lines.Lines.concerned.Goals as goal
use Rattle.snoop_machine.proofs.lines.Lines.concerned.Goals.{After-concerned}

pub concerned-requires : goal.concerned-requires
concerned-requires g c =
    let within = (in_rows c.self.invariant c.self.view_is c.args.requestor c.args.block c.requires.block c.requires.requestor).1 in
    omega (arith, within, c.self.invariant.few)

-- the holders are those of the row
fits : (g : _) (c : After-concerned g) → AreHolders c.get_or-holders.result (slice_index_or c.args.self.now.rows c.args.block [])
fits g c =
    let within = (in_rows c.self.invariant c.self.view_is c.args.requestor c.args.block c.requires.block c.requires.requestor).0 in
    let read = c.get_or-holders.ensures ∙ get_or_default c.self.inside.holders c.args.block c.default.result no_holders within in
    rw (read, ← (row_seen c.self.invariant c.self.view_is c.args.block within)) (c.self.invariant.indexed c.args.block within)

pub returns-clause-concerned : goal.returns-clause-concerned
returns-clause-concerned g c =
    let f = fits g (goal.at.returns-clause-concerned g c).After-concerned in
    record { own = c.concerned.ensures.own; others = λ k ne. rw (c.concerned.ensures.others k ne, f.owners k, f.readers k) refl }

pub returns-clause-proper : goal.returns-clause-proper
returns-clause-proper g c k =
    let within = (in_rows c.self.invariant c.self.view_is c.args.requestor c.args.block c.requires.block c.requires.requestor).0 in
    rw (← (line_seen c.self.invariant c.self.view_is k c.args.block within)) (c.self.invariant.proper k c.args.block)
