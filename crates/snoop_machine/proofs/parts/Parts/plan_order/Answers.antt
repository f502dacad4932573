use Rattle.snoop_machine.proofs.Common.{◌≡◌, Option, Some, None, refl, sym, ap, ◌∙◌, false, ℕ, is_some, option_copied, Order, seen_by, Open, Picture, free_picture, picture_of, row_of, memory_line, Fields, standing, IsWhole, IsPlan, Standing, orders_follow_sender_table, finds_rows, arith}
use Rattle.std.specs.Borrow.{Bor}
use Rattle.snoop_machine.specs.declared.parts.step.Plan.TheVariants as plan
use Rattle.snoop_machine.proofs.{Plans.plan-allowed, parts.Parts.plan_order.Goals.After-sender-from, PartsViews.{seen, line_seen, protocol_seen}}
use Rattle.snoop_machine.proofs.parts.Parts.plan_order.Goals as goal

-- a block that was found without an open transaction
free_copied : (found : Option (Bor Open)) (transaction : Option Open) → option_copied found ≡ transaction → is_some found ≡ false → transaction ≡ None
free_copied found transaction shown none = grind arith

-- has this picture
free_seen : {count : ℕ} {m : Fields} (whole : IsWhole count m) {now : Standing} (view : standing m ≡ now) (block : ℕ)
    → (picture_of now.situation block).transaction ≡ None
    → free_picture (row_of m.lines.rows block) (memory_line m.memory block) ≡ picture_of now.situation block
free_seen whole view block free = grind (arith, seen whole view block)

pub sender-from-requires-clause-waits : goal.sender-from-requires-clause-waits
sender-from-requires-clause-waits g c = rw (line_seen c.self.invariant c.self.view_is c.args.core c.in-Some.block) at c.in-Some.ensures.some.waits

-- each core has its row for a waiting request on a free block
pub sender-from-requires-clause-rows : goal.sender-from-requires-clause-rows
sender-from-requires-clause-rows g c =
    let free = free_copied _ _ c.transaction.ensures.value (sym c.is_some.ensures ∙ c.if-is_some.false) in
    let request = c.in-Some.request in
    rw (protocol_seen c.self.invariant c.self.view_is, sym (ap (λ (x : Picture). x.caches) (seen c.self.invariant c.self.view_is c.in-Some.block)))
    (λ k inside. (finds_rows c.args.self.now.situation c.requires.inductive (Order c.args.core)).cache k c.in-Some.block (Some (seen_by k c.args.core request))
    (request, ((c.in-Some.ensures.some.waits, free), refl)))

pub sender-from-requires-clause-line : goal.sender-from-requires-clause-line
sender-from-requires-clause-line g c =
    let free = free_copied _ _ c.transaction.ensures.value (sym c.is_some.ensures ∙ c.if-is_some.false) in
    rw (protocol_seen c.self.invariant c.self.view_is, free_seen c.self.invariant c.self.view_is c.in-Some.block free)
    (orders_follow_sender_table c.args.self.now.situation c.requires.inductive c.args.core c.in-Some.block c.in-Some.request
    (c.in-Some.ensures.some.waits, free))

-- what was found of the core's oldest request
plan_is : (g : _) (c : After-sender-from g) → IsPlan c.args.self.now.situation (plan.Order c.args.core c.in-Some.request c.in-Some.block c.sender-from.result.from c.sender-from.result.payload c.sender-from.result.memory)
plan_is g c =
    let free = free_copied _ _ c.transaction.ensures.value (sym c.is_some.ensures ∙ c.if-is_some.false) in
    let protocol = protocol_seen c.self.invariant c.self.view_is in
    let request = c.in-Some.request in (
      c.requires.core,
      record {
        head = c.in-Some.ensures.some;
        free = free;
        memory_row = rw (← protocol, seen c.self.invariant c.self.view_is c.in-Some.block) c.sender-from.ensures.memory;
        rows = λ k inside.
            (finds_rows c.args.self.now.situation c.requires.inductive (Order c.args.core)).cache k c.in-Some.block (Some (seen_by k c.args.core request))
            (request, ((c.in-Some.ensures.some.waits, free), refl));
        sender = rw (← protocol, ← free_seen c.self.invariant c.self.view_is c.in-Some.block free) c.sender-from.ensures.sender;
      },
    )

pub returns-clause-found : goal.returns-clause-found
returns-clause-found g c = (refl, plan_is g (goal.at.returns-clause-found g c).After-sender-from)

pub returns-clause-exactly : goal.returns-clause-exactly
returns-clause-exactly g c cause refuses =
    let found = plan.Order c.args.core c.in-Some.request c.in-Some.block c.sender-from.result.from c.sender-from.result.payload c.sender-from.result.memory in
    absurd (plan-allowed c.args.self.now.situation found (plan_is g (goal.at.returns-clause-exactly g c).After-sender-from) cause refuses)
