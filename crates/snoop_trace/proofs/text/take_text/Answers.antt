use Rattle.std.proofs.{Common.{◌∷◌, [], inl, inr, refl, sym, ◌∙◌, arith}}
use Rattle.snoop_trace.proofs.Common.{All-push, append-nil, err_from_is_err_and, fields_of, length-append, nat_tests}
use Rattle.snoop_trace.{proofs.TextLemmas.{done, further, no_heading, refused}, specs.Progress.IsPlain}
use Rattle.snoop_trace.proofs.text.take_text.Goals.{in-Some+in_ok-check-in-Some, in_default+in_ok-from_record-in_default+in_ok-append-in_default}
use Rattle.snoop_trace.proofs.text.take_text.Goals.{in_default-via-in-Some+else-is_heading, in_default-via-in_default}
use Rattle.snoop_trace.proofs.text.take_text.Goals as goal

pub returns-in-Ok-false-clause-read : goal.returns-in-Ok-false-clause-read
returns-in-Ok-false-clause-read g c =
    done g.R.Read.remaining c.loop-i.text c.read_byte_record.new.self (fields_of c.read_byte_record.new.row) c.loop-i.invariant.0.config _ _ _ _ _
    c.loop-i.invariant.1 (rw c.in-Ok-false.field-0-test at (c.in-Ok-false.ensures.reads c.loop-i.invariant.0.trim c.loop-i.invariant.0.ready))

pub returns-in_err-check-in-Some-clause-read : goal.returns-in_err-check-in-Some-clause-read
returns-in_err-check-in-Some-clause-read g c =
    let f = fields_of c.read_byte_record.new.row in
    let read = rw c.in-Ok-true.field-0-test at (c.in-Ok-true.ensures.reads c.loop-i.invariant.0.trim c.loop-i.invariant.0.ready) in
    let p = err_from_is_err_and c.from_residual.result c.from_residual.ensures.1 in
    refused g.R.Read.remaining c.loop-i.text c.read_byte_record.new.self f c.loop-i.invariant.0.config _ _ _ _ _ c.loop-i.invariant.1 read _ _
    c.in_err-check-in-Some.field-0.0 (rw p.2 at p.1)
    (rw (c.in-Some.is, sym c.is_heading.ensures ∙ c.if-is_heading.true, sym c.check.ensures.heading ∙ c.in_err-check-in-Some.was) refl)

pub returns-in_err-from_record-in_default-clause-read : goal.returns-in_err-from_record-in_default-clause-read
returns-in_err-from_record-in_default-clause-read g c =
    let f = fields_of c.read_byte_record.new.row in
    let read = rw c.in-Ok-true.field-0-test at (c.in-Ok-true.ensures.reads c.loop-i.invariant.0.trim c.loop-i.invariant.0.ready) in
    let p = err_from_is_err_and c.from_residual-in_err-from_record-in_default.result c.from_residual-in_err-from_record-in_default.ensures.1 in
    let says = no_heading (g.E.Entry.says c.args.shape) c.args.shape c.args.protocol c.loop-i.i f (elim c.in_default.branch [
      | in_default-via-in-Some+else-is_heading w ↦ λ asked some. sym w.is_heading.ensures ∙ w.if-is_heading.false
      | in_default-via-in_default w ↦ λ asked some. absurd (w.in_default.not-Some asked some)
    ]) in
    refused g.R.Read.remaining c.loop-i.text c.read_byte_record.new.self f c.loop-i.invariant.0.config _ _ _ _ _ c.loop-i.invariant.1 read _ _
    c.in_err-from_record-in_default.field-0.0 (rw p.2 at p.1) (rw (says, sym c.from_record.ensures.entry ∙ c.in_err-from_record-in_default.was) refl)

pub loop-i-preserved : goal.loop-i-preserved
loop-i-preserved g c =
    let f = fields_of c.read_byte_record.new.row in
    let read = rw c.in-Ok-true.field-0-test at (c.in-Ok-true.ensures.reads c.loop-i.invariant.0.trim c.loop-i.invariant.0.ready) in
    let plain : IsPlain c.read_byte_record.new.self = record {
      trim = read.3 ∙ c.loop-i.invariant.0.trim;
      ready = inl (c.in-Ok-true.ensures.ready c.loop-i.invariant.0.trim);
      config = read.2 ∙ c.loop-i.invariant.0.config;
    } in
    let on = further g.R.Read.remaining c.loop-i.text c.read_byte_record.new.self f c.loop-i.invariant.0.config _ _ _ _ _ c.loop-i.invariant.1 read in
    elim c.match-protocol.branch [
      | in-Some+in_ok-check-in-Some w ↦
          let begun = sym w.is_heading.ensures ∙ w.if-is_heading.true in rw w.entries-is (
            plain,
            rw append-nil at (on [] (rw (w.in-Some.is, begun, sym w.check.ensures.heading ∙ w.in_ok-check-in-Some.was) refl)),
            c.loop-i.invariant.2,
            inl (grind (arith, nat_tests)),
            grind (arith, nat_tests),
          )
      | in_default+in_ok-from_record-in_default+in_ok-append-in_default w ↦
          let says = no_heading (g.E.Entry.says c.args.shape) c.args.shape c.args.protocol c.loop-i.i f (elim w.in_default.branch [
            | in_default-via-in-Some+else-is_heading w ↦ λ asked some. sym w.is_heading.ensures ∙ w.if-is_heading.false
            | in_default-via-in_default w ↦ λ asked some. absurd (w.in_default.not-Some asked some)
          ]) in
          let entry = w.in_ok-from_record-in_default.field-0 in
          let said = sym w.from_record.ensures.entry ∙ w.in_ok-from_record-in_default.was in
          let items = w.in_ok-append-in_default.ensures.items in
          let longer = length-append (g.C.Entries.listed c.loop-i.entries) (entry ∷ []) in rw w.entries-is (
            plain,
            rw items (on (entry ∷ []) (rw (says, said) refl)),
            rw items (All-push (g.E.Entry.within c.args.shape) (g.C.Entries.listed c.loop-i.entries) entry c.loop-i.invariant.2
                w.in_ok-from_record-in_default.ensures.within),
            inr w.in_ok-append-in_default.ensures.bounded,
            rw items (omega (arith, longer, c.loop-i.invariant.4)),
          )
    ]
