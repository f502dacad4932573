use Rattle.snoop_engine.proofs.{Common.◌∙◌, Common.{inl, inr}, WrittenLemmas.{begins_serial, reports_serial, write_faulted}}
use Rattle.snoop_engine.proofs.serial.simulate_serial.Goals as goal

pub returns-in_err-write_lines-clause-does : goal.returns-in_err-write_lines-clause-does
returns-in_err-write_lines-clause-does g c =
    let rows = c.in_ok-rows.rows.items in
    let begins = begins_serial c.in-Ok.ensures.situation (c.in-Ok.ensures.left ∙ c.deref.ensures.value) c.in_err-write_lines.ensures.front in
    elim (write_faulted c.in_err-write_lines.field-0.0 _ c.from_residual-in_err-write_lines.ensures.1) [ inl e ↦ rw e (rows, (c.in_ok-rows.ensures.read, begins)) | inr e ↦ rw e (rows, (c.in_ok-rows.ensures.read, begins)) ]

pub returns-clause-does : goal.returns-clause-does
returns-clause-does g c =
    let reports = reports_serial c.in-Ok.ensures.situation (c.in-Ok.ensures.left ∙ c.deref.ensures.value) c.in_ok-write_lines.ensures.ok in
    (c.in_ok-rows.rows.items, (c.in_ok-rows.ensures.read, reports))
