use Rattle.snoop_machine.proofs.Common.{◌≡◌, ℕ, ◌<◌, Option, Some, None, refl, sym, ap, ◌∙◌, length, arith, IfSome, IfNone, slice_get, waiting_request, Request, queue_of, head_of, WaitsOnNone, IsHead, get_or_past, [], waiting_of}
use Rattle.snoop_machine.proofs.{PartsViews.{state_seen, head_alone, nothing_for, first_shown}, parts.Parts.head.Goals.After-head}
use Rattle.snoop_machine.proofs.parts.Parts.head.Goals as goal

-- what callers see of the head of a queue, and of one without
shown : (g : _) (c : After-head g) (o : Option (Request × ℕ)) → head_of c.self.inside.bus c.args.core ≡ o
    → IfSome o (λ head. IsHead c.args.self.now.situation c.args.core head.0 head.1)
    × IfNone o (WaitsOnNone c.args.self.now.situation c.args.core)
    × IfNone o (slice_get (queue_of c.args.self.now.situation.queues c.args.core) 0 ≡ None)
shown g c None is =
    let idle = nothing_for (waiting_of c.self.inside.bus c.args.core).requests in
    grind (arith, is, c.self.view_is, first_shown c.self.inside.bus c.args.core, idle, c.self.invariant.sound.waits c.args.core, state_seen c.self.invariant c.self.view_is c.args.core)
shown g c (Some head) is =
    let waits = (head_alone c.self.invariant.sound c.args.core head.0 head.1 is).0 in
    let within : head.1 < length c.self.inside.lines.rows = grind (arith, get_or_past c.self.inside.lines.rows head.1 []) in (
      rw (← c.self.view_is) (record {
        first = first_shown c.self.inside.bus c.args.core ∙ rw is refl;
        waits = ap waiting_request (state_seen c.self.invariant refl c.args.core head.1) ∙ waits;
        within = rw (← c.self.invariant.sound.rows) within;
      }),
      tt,
      tt,
    )

pub returns : goal.returns
returns g c =
    let its = shown g (goal.at.returns g c).After-head c.head.result (sym c.head.ensures) in
    record { some = its.0; none = its.1; empty = its.2 }
