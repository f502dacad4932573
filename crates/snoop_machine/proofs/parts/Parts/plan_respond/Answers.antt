use Rattle.snoop_machine.proofs.Common.{arith, ◌≡◌, line_or_nothing, Some, refl, sym, ap, ◌∙◌, option_copied, Respond, arrival, arrival_at_memory, Came, Line, picture_of, IsClosing, finds_rows, sender_within, Access, if_some, ◌<◌}
use Rattle.snoop_model.specs.Pictures.Situation.{held_of}
use Rattle.snoop_machine.proofs.{PartsViews.{line_seen, protocol_seen, words_seen}, parts.Parts.plan_respond.Goals.{After-came-came, After-get-found}}
use Rattle.snoop_machine.proofs.parts.Parts.plan_respond.Goals as goal

-- what was found is what the requestor holds
held : (g : _) (c : After-get-found g) → line_or_nothing (option_copied c.get-found.result) ≡ held_of c.args.self.now.situation c.in-Some.closing.now.core c.args.block
held g c = c.get-found.ensures.line ∙ sym (line_seen c.self.invariant c.self.view_is c.in-Some.closing.now.core c.args.block)

pub plan_settle-memory-requires : goal.plan_settle-memory-requires
plan_settle-memory-requires g c =
    let closing = c.in-Some.closing.now in
    rw (c.memory_state.ensures, protocol_seen c.self.invariant c.self.view_is)
    (λ takes. (finds_rows c.args.self.now.situation c.requires.inductive (Respond c.args.block)).memory c.args.block (arrival_at_memory closing.payload)
    (closing, (refl, sym c.transaction.ensures.value ∙ ap option_copied c.in-Some.is, takes, refl)))

pub plan_fill-filled-requires-clause-possible : goal.plan_fill-filled-requires-clause-possible
plan_fill-filled-requires-clause-possible g c =
    let closing = c.in-Some.closing.now in
    rw (held g (goal.at.plan_fill-filled-requires-clause-possible g c).After-get-found, protocol_seen c.self.invariant c.self.view_is)
    ((finds_rows c.args.self.now.situation c.requires.inductive (Respond c.args.block)).cache closing.core c.args.block (arrival closing.payload)
    (closing, (refl, sym c.transaction.ensures.value ∙ ap option_copied c.in-Some.is, refl, c.in_default-request.not-PutM, refl)))

pub plan_fill-filled-requires-clause-word : goal.plan_fill-filled-requires-clause-word
plan_fill-filled-requires-clause-word g c =
    let count = words_seen c.self.invariant c.self.view_is in
    rw (held g (goal.at.plan_fill-filled-requires-clause-word g c).After-get-found) (if_some _ (λ (access : Access). access.word < _)
    (λ access is. rw count at (c.requires.inductive.accesses c.in-Some.closing.now.core c.args.block access is).0))

-- the transaction is open
opened : (g : _) (c : After-came-came g) → (picture_of c.args.self.now.situation c.args.block).transaction ≡ Some c.in-Some.closing.now
opened g c = sym c.transaction.ensures.value ∙ ap option_copied c.in-Some.is

-- the response is to this block's
its : (g : _) (c : After-came-came g) → c.came-came.result.block ≡ c.args.block
its g c = ap (λ (x : Came). x.block) c.came-came.ensures ∙ c.in-Some.ensures.within.0

closes : (g : _) (c : After-came-came g) → IsClosing c.args.self.now.situation c.came-came.result c.plan_settle-memory.result
closes g c =
    let here = c.in-Some.ensures.within.0 in
    rw c.came-came.ensures (record {
      opened = grind (arith, here, opened g c);
      core = c.in-Some.ensures.within.1;
      sender = sender_within c.args.self.now.situation c.requires.inductive c.args.block c.in-Some.closing.now (opened g c);
      settles = rw here (rw (c.memory_state.ensures, protocol_seen c.self.invariant c.self.view_is) at c.plan_settle-memory.ensures);
    })

pub returns-in-PutM-clause-found : goal.returns-in-PutM-clause-found
returns-in-PutM-clause-found g c =
    let d = (goal.at.returns-in-PutM-clause-found g c).After-came-came in
    (ap Respond (its g d), (rw (its g d) c.requires.block, closes g d, ap (λ (x : Came). x.request) c.came-came.ensures ∙ c.in-PutM.is))

pub returns-clause-found : goal.returns-clause-found
returns-clause-found g c =
    let d = (goal.at.returns-clause-found g c).After-came-came in
    let held = held g (goal.at.returns-clause-found g c).After-get-found in
    let fills = rw (held, protocol_seen c.self.invariant c.self.view_is) at c.plan_fill-filled.ensures in
    let waits = ap (λ (x : Line). x.waiting) (sym held) ∙ c.plan_fill-filled.ensures.waited in
    let word = c.requires.inductive.accesses c.in-Some.closing.now.core c.args.block c.plan_fill-filled.result.access waits in
    let get = c.in_default-request.not-PutM in
    (ap Respond (its g d), grind (arith, its g d, c.requires.block, closes g d, get, c.came-came.ensures, opened g d, fills, word))
