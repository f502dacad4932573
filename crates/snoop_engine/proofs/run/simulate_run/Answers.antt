use Rattle.snoop_engine.proofs.{Common.{inl, inr}, WrittenLemmas.{begins_run, reports_run, write_faulted}}
use Rattle.snoop_engine.proofs.run.simulate_run.Goals as goal

pub returns-in_err-write_lines-clause-does : goal.returns-in_err-write_lines-clause-does
returns-in_err-write_lines-clause-does g c =
    let read = c.in_ok-driver.ensures.rows in
    let begins = begins_run read.1.1 c.in_err-write_lines.ensures.front in
    elim (write_faulted c.in_err-write_lines.field-0.0 _ c.from_residual-in_err-write_lines.ensures.1) [ inl e ↦ rw e (read.0, (read.1.0, begins)) | inr e ↦ rw e (read.0, (read.1.0, begins)) ]

pub returns-clause-does : goal.returns-clause-does
returns-clause-does g c =
    let read = c.in_ok-driver.ensures.rows in
    (read.0, (read.1.0, reports_run read.1.1 c.in_ok-write_lines.ensures.ok))
