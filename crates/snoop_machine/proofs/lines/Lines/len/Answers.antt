use Rattle.snoop_machine.proofs.{Common.{sym, ◌∙◌}, LineMaps.{among_seen, held_placed}}
use Rattle.snoop_machine.proofs.lines.Lines.len.Goals as goal

pub returns-clause-held : goal.returns-clause-held
returns-clause-held g c block held =
    sym (among_seen c.self.invariant c.self.view_is c.args.core block) ∙ held_placed c.self.invariant c.self.view_is c.args.core block held

pub returns-in_err-cache-clause-held : goal.returns-in_err-cache-clause-held
returns-in_err-cache-clause-held g c block held =
    sym (among_seen c.self.invariant c.self.view_is c.args.core block) ∙ held_placed c.self.invariant c.self.view_is c.args.core block held
