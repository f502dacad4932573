use Rattle.snoop_machine.proofs.{Common.{◌≡◌, ℕ, Some, refl, sym, ap, ◌∙◌, line_or_nothing, option_copied, Ask, Cell, asked, finds_rows, Step, arith, common_steps, state_of, Line, Protocol, CacheState, IsProper, held_by, picture_of}, PartsViews.{line_seen, protocol_seen}, parts.Parts.plan_ask.Goals.In-Some}
use Rattle.snoop_model.specs.Pictures.Situation.{held_of}
use Rattle.snoop_trace.specs.declared.step.Op.{TheVariants.{Store}}
use Rattle.snoop_rules.specs.declared.names.CacheAction.TheVariants.{Hit}
use Rattle.snoop_model.specs.Moves.{Move.Hits}
use Rattle.snoop_machine.specs.Asked.{after_hit}
use Rattle.snoop_machine.proofs.parts.Parts.plan_ask.Goals as goal

pub unreachable-requires : goal.unreachable-requires
unreachable-requires g c =
    let asks : Step = Ask c.args.core c.args.block c.args.word c.args.op in
    let row = (finds_rows c.args.self.now.situation c.requires.inductive asks).cache c.args.core c.args.block (Some (asked c.args.op)) in
    grind (arith, common_steps, row, c.get-found.ensures.line, line_seen c.self.invariant c.self.view_is c.args.core c.args.block, protocol_seen c.self.invariant c.self.view_is)

-- what was found is what the core holds
held : (g : _) (c : In-Some g) → line_or_nothing (option_copied c.get-found.result) ≡ held_of c.args.self.now.situation c.args.core c.args.block
held g c = c.get-found.ensures.line ∙ sym (line_seen c.self.invariant c.self.view_is c.args.core c.args.block)

-- the row that was found
row_is : (g : _) (c : In-Some g) → Cell c.args.self.now.situation.protocol (state_of c.args.self.now.situation c.args.core c.args.block) (asked c.args.op) c.in-Some.cell.action c.in-Some.cell.next
row_is g c = rw (c.event_asked.ensures, c.state_of-state.ensures, held g c, protocol_seen c.self.invariant c.self.view_is) at c.in-Some.ensures.row

pub returns-in-Stall-default-default-clause-denied : goal.returns-in-Stall-default-default-clause-denied
returns-in-Stall-default-default-clause-denied g c =
    let row = row_is g (goal.at.returns-in-Stall-default-default-clause-denied g c).In-Some in
    let state = c.state_of-state.ensures ∙ ap (λ (x : Line). x.state) (held g (goal.at.returns-in-Stall-default-default-clause-denied g c).In-Some) in
    ((c.requires.core, c.requires.block), state, (c.in-Some.cell.next, rw c.in-Stall-default-default.is-0 at row), c.requires.word)

pub unreachable-requires-in_default-2 : goal.unreachable-requires-in_default-2
unreachable-requires-in_default-2 g c =
    let row = row_is g (goal.at.unreachable-requires-in_default-2 g c).In-Some in
    let held = held g (goal.at.unreachable-requires-in_default-2 g c).In-Some in
    let proper = rw held at c.get-found.ensures.proper in
    grind (arith, common_steps, row, proper, held)

-- a store hits on the words that its line keeps
store_hits : (p : Protocol) (old : Line) (word value : ℕ) (next : CacheState) → IsProper old → Cell p old.state (asked (Store value)) Hit next
    → Hits next old (after_hit next word (Store value) old) word (Store value) value
store_hits p old word value next proper row = grind arith

pub returns-in-Hit-Store-default-clause-found : goal.returns-in-Hit-Store-default-clause-found
returns-in-Hit-Store-default-clause-found g c =
    let row = row_is g (goal.at.returns-in-Hit-Store-default-clause-found g c).In-Some in
    let proper = rw (held g (goal.at.returns-in-Hit-Store-default-clause-found g c).In-Some) at c.get-found.ensures.proper in
    let line = held_by (picture_of c.args.self.now.situation c.args.block) c.args.core in
    let op = c.in-Hit-Store-default.is-1 in
    let hit = rw c.in-Hit-Store-default.is-0 at row in
    (refl, ((c.requires.core, c.requires.block), (hit, rw (← op) at (store_hits c.args.self.now.situation.protocol line c.args.word c.in-Hit-Store-default.value c.in-Some.cell.next proper (rw op at hit))), proper, c.requires.word))
