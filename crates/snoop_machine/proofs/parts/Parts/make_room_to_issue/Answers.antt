use Rattle.snoop_machine.proofs.Common.{◌≡◌, ◌<◌, ◌∙◌, ◌++◌, ◌∷◌, [], ap, arith, inl, inr, length, length-append, refl, sym, slice_index_or, err_from_is_err_and, cases_eq, get_or-set_same, get_or-set_other, waiting_of, KeepsMapsRoom, line_at, I}
use Rattle.snoop_machine.proofs.PartsViews.{held_in-set, keeps_room, state_seen, shown-same, shown_at, queues_of-room}
use Rattle.snoop_machine.proofs.parts.Parts.make_room_to_issue.Goals as goal

-- where the map has the line
pub returns-then-is_some-clause-room : goal.returns-then-is_some-clause-room
returns-then-is_some-clause-room g c =
    let more = c.reserve.ensures.room in
    keeps_room c.self.invariant c.self.view_is c.self.inside.lines c.self.inside.memory c.reserve.new.self c.self.inside.log (omega arith)
    (held_in-set c.self.invariant c.self.view_is c.reserve.new.self c.args.core _ c.reserve.ensures.queue c.requires.core (omega arith)) (λ core. omega arith)

pub returns-then-is_some-clause-unchanged : goal.returns-then-is_some-clause-unchanged
returns-then-is_some-clause-unchanged g c =
    let shown = queues_of-room c.self.inside.bus.queues c.args.core (waiting_of c.reserve.new.self c.args.core).room in
    rw (c.reserve.ensures.queue, shown, c.reserve.ensures.transactions) (ap (λ s. s.situation) c.self.view_is)

-- where it has none
pub returns-in_err-reserve-clause-full : goal.returns-in_err-reserve-clause-full
returns-in_err-reserve-clause-full g c =
    let p = err_from_is_err_and c.from_residual.result c.from_residual.ensures.1 in
    let shown = shown_at c.self.inside.bus.queues c.self.inside.lines.line_rooms c.args.core in
    rw (p.1, ← c.self.view_is) (grind (arith, shown, c.in_err-reserve.ensures.full, c.get.ensures.among, c.is_some.ensures, c.if-is_some.false))

pub returns-in_err-reserve-2-clause-refused : goal.returns-in_err-reserve-2-clause-refused
returns-in_err-reserve-2-clause-refused g c =
    let p = err_from_is_err_and c.from_residual-in_err-reserve-2.result c.from_residual-in_err-reserve-2.ensures.1 in
    let did = c.reserve-2.ensures in
    let shown = shown-same c.self.inside.bus.queues c.self.inside.lines.line_rooms c.args.core (slice_index_or c.reserve-2.new.self.line_rooms c.args.core 0)
    c.in_err-reserve-2.ensures.full in
    rw (p.1, c.in_err-reserve-2.ensures.refused, did.rows, did.lines, did.line_rooms, shown) c.self.view_is

pub returns-in_err-reserve-2-clause-room : goal.returns-in_err-reserve-2-clause-room
returns-in_err-reserve-2-clause-room g c =
    keeps_room c.self.invariant c.self.view_is c.reserve-2.new.self c.self.inside.memory c.reserve-3.new.self c.self.inside.log (omega arith)
    (λ core. rw c.in_err-reserve-2.ensures.refused (omega arith)) c.reserve-2.ensures.room

pub returns-clause-room : goal.returns-clause-room
returns-clause-room g c =
    let core = c.args.core in
    let more = c.reserve-3.ensures.room in
    let line_rooms : KeepsMapsRoom c.self.inside.lines c.put_ahead.new.self = λ k.
    grind (arith, c.reserve-2.ensures.room k, c.put_ahead.ensures.room k, c.reserve-2.ensures.lines) in
    keeps_room c.self.invariant c.self.view_is c.put_ahead.new.self c.self.inside.memory c.reserve-3.new.self c.self.inside.log (omega arith)
    (held_in-set c.self.invariant c.self.view_is c.reserve-3.new.self core _ c.reserve-3.ensures.queue c.requires.core (omega arith)) line_rooms

pub returns-clause-lines : goal.returns-clause-lines
returns-clause-lines g c k =
    let lines = c.self.inside.lines.lines in
    let core = c.args.core in
    let own = slice_index_or lines core [] in
    let now = rw c.reserve-2.ensures.lines at c.put_ahead.ensures.lines in
    let within : core < length lines = rw c.self.invariant.sized.lines (rw (← c.self.view_is) at c.requires.core) in
    let none = sym c.is_some.ensures ∙ c.if-is_some.false in
    let idle : (line_at c.self.inside.lines.rows core c.args.block).state ≡ I = grind (arith, none, c.get.ensures.line) in
    let absent = sym c.get.ensures.among ∙ none in
    let more = get_or-set_same lines core (own ++ c.args.block ∷ []) [] within in
    rw (← c.self.view_is, now) (elim (cases_eq k core) [
      | inl e ↦ inr (sym e, state_seen c.self.invariant refl core c.args.block ∙ idle, absent, rw (e, more) (length-append own (c.args.block ∷ [])))
      | inr ne ↦ inl (ap length (get_or-set_other lines core k (own ++ c.args.block ∷ []) [] ne))
    ])

pub returns-clause-unchanged : goal.returns-clause-unchanged
returns-clause-unchanged g c =
    let shown = queues_of-room c.self.inside.bus.queues c.args.core (waiting_of c.reserve-3.new.self c.args.core).room in
    rw (c.put_ahead.ensures.rows, c.reserve-2.ensures.rows, c.reserve-3.ensures.queue, shown, c.reserve-3.ensures.transactions)
    (ap (λ s. s.situation) c.self.view_is)
