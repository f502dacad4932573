use Rattle.snoop_engine.{proofs.{Common.[], Common.{inl, inr, rules}, Completing.listed_can_end, WrittenLemmas.{begins_nothing, write_faulted}}, specs.Simulated.{Begins, Reports}}
use Rattle.snoop_engine.proofs.steps.simulate_steps.Goals as goal

pub returns-in_default-clause-does : goal.returns-in_default-clause-does
returns-in_default-clause-does g c =
    (c.in_ok-steps.steps, (c.in_ok-steps.ensures.read, begins_nothing c.args.protocol c.args.shape c.in_ok-steps.steps _))

pub write_lines-requires-clause-can_end : goal.write_lines-requires-clause-can_end
write_lines-requires-clause-can_end g c = listed_can_end c.in_ok-steps.steps c.in-Ok.machine.situation c.args.protocol c.args.shape [] [] c.in-Ok.ensures.at_reset

pub returns-clause-does : goal.returns-clause-does
returns-clause-does g c =
    let end = c.in_ok-write_lines.ensures.ok in
    let steps = c.in_ok-steps.steps in
    let reports : Reports c.args.protocol c.args.shape steps (g.W.Write.contents c.args.writer.now) (g.W.Write.contents c.write_lines.new.writer) = search rules in
    (steps, (c.in_ok-steps.ensures.read, reports))

pub returns-in_err-write_lines-clause-does : goal.returns-in_err-write_lines-clause-does
returns-in_err-write_lines-clause-does g c =
    let end = c.in_err-write_lines.ensures.front in
    let steps = c.in_ok-steps.steps in
    let begins : Begins c.args.protocol c.args.shape steps (g.W.Write.contents c.args.writer.now) (g.W.Write.contents c.write_lines.new.writer) = search rules in
    elim (write_faulted c.in_err-write_lines.field-0.0 _ c.from_residual-in_err-write_lines.ensures.1) [ inl e ↦ rw e (steps, (c.in_ok-steps.ensures.read, begins)) | inr e ↦ rw e (steps, (c.in_ok-steps.ensures.read, begins)) ]
