use Rattle.snoop_machine.proofs.Common.{◌≡◌, ◌∙◌, slice_set, set-get_or, nothing_held, nothing_there, ◌++◌, if◌then◌else◌, true, Reply, Situation, next_did, ◌-◌, ◌∷◌, [], None, append-nil, arith, asked, Cell, changed, fields, held_by, inr, IsProper-issue, issue-waits, length-append, line_at, picture_of, refl, Wait, waiting_of, with_line}
use Rattle.snoop_machine.proofs.PartsViews.{follows-set, held_in-set, IsSound-issue, keeps_room, line-written, line_seen, picture_in, queues_of-issue, seen, sized_on}
use Rattle.snoop_rules.specs.declared.names.CacheAction.TheVariants as action
use Rattle.snoop_history.specs.declared.items.Item.TheVariants as item
use Rattle.snoop_model.specs.declared.replies.Reply.TheVariants as reply
use Rattle.snoop_model.specs.{Moves.Move.{AskMove, is_load}, Pictures.Situation.with_picture}
use Rattle.snoop_machine.specs.Asked.{after_hit}
use Rattle.snoop_machine.proofs.parts.Parts.take_ask.Goals as goal
use Rattle.snoop_machine.proofs.parts.Parts.take_ask.Goals.{In-Issue, In-Hit}

-- the row by which the request is issued
issued : (g : _) (c : In-Issue g)
    → Cell c.args.self.now.situation.protocol (held_by (picture_of c.args.self.now.situation c.args.block) c.args.core).state
    (asked c.args.op) (action.Issue c.in-Issue.request) c.in-Issue.next
issued g c = rw c.in-Issue.is at c.requires.found

pub change-requires-clause-proper : goal.change-requires-clause-proper
change-requires-clause-proper g c =
    let row = issued g (goal.at.change-requires-clause-proper g c).In-Issue in
    rw (line_seen c.self-in-Issue.invariant c.self-in-Issue.view_is c.args.core c.args.block) at
    (IsProper-issue _ _ c.args.word c.args.op _ _ c.requires.proper row)

pub invariant_of-self-in-Issue : goal.invariant_of-self-in-Issue
invariant_of-self-in-Issue g c =
    let row = issued g (goal.at.invariant_of-self-in-Issue g c).In-Issue in
    let here = line_seen c.self-in-Issue.invariant c.self-in-Issue.view_is c.args.core c.args.block in
    let waits = issue-waits _ _ _ _ _ row in
    record {
      sound = rw c.change.ensures.rows (IsSound-issue c.self-in-Issue.invariant.sound c.args.core c.args.block _
          (rw (← c.self-in-Issue.view_is) at c.requires.core) (rw (← c.self-in-Issue.view_is) at c.requires.block)
          (rw here at (IsProper-issue _ _ c.args.word c.args.op _ _ c.requires.proper row))
          c.issue.new.self c.in-Issue.request _ c.issue.ensures.queue c.issue.ensures.transactions (rw here at waits.0) waits.1);
      sized = sized_on _ _ c.self-in-Issue.invariant.sized refl c.change.ensures.many (refl, refl) (refl, refl, refl);
    }

pub returns-in-Issue : goal.returns-in-Issue
returns-in-Issue g c =
    let m = fields c.self-in-Issue.inside.protocol c.self-in-Issue.inside.shape c.self-in-Issue.inside.lines c.self-in-Issue.inside.memory c.self-in-Issue.inside.bus c.self-in-Issue.inside.log in
    let core = c.args.core in
    let block = c.args.block in
    let line = changed c.in-Issue.next (Wait (record { word = c.args.word; op = c.args.op })) (line_at m.lines.rows core block) in
    let before = waiting_of m.bus core in
    let long = length-append before.requests ((c.in-Issue.request, block) ∷ []) in
    let shown = queues_of-issue m.bus.queues core block (before.room - 1) c.in-Issue.request in
    let here = seen c.self-in-Issue.invariant refl block in
    let wrote = line-written c.self-in-Issue.invariant refl block c.change.new.self.rows core line c.change.ensures.rows in
    record {
      moved = record {
        on_block = refl;
        within = (c.requires.core, c.requires.block);
        moves = inr (record {
          row = record { action = action.Issue c.in-Issue.request; next = c.in-Issue.next };
          is_row = issued g (goal.at.returns-in-Issue g c).In-Issue;
          held = changed c.in-Issue.next (Wait (record { word = c.args.word; op = c.args.op })) (held_by (picture_of c.args.self.now.situation block) core);
          entry = None;
          taken = (refl, refl, refl);
          after = rw (← c.self-in-Issue.view_is, here, c.issue.ensures.transactions, wrote, c.issue.ensures.queue, shown, append-nil m.log.items) refl;
        });
        has_word = c.requires.word;
      };
      room = keeps_room c.self-in-Issue.invariant c.self-in-Issue.view_is c.change.new.self m.memory c.issue.new.self m.log (omega arith)
          (held_in-set c.self-in-Issue.invariant c.self-in-Issue.view_is c.issue.new.self core _ c.issue.ensures.queue c.requires.core (omega arith)) c.change.ensures.room;
      lines = follows-set c.self-in-Issue.invariant c.self-in-Issue.view_is _ block (with_line (picture_in m block) core line) c.change.new.self c.requires.block
          (rw c.issue.ensures.transactions wrote) refl c.change.ensures c.requires.core refl;
    }

-- a hit is the move of an Ask
hit : (g : _) (c : In-Hit g) (answer : Reply) (new : Situation) → answer ≡ (if is_load c.args.op then reply.Hit c.in-Hit.value else reply.StoreHit)
    → new ≡ record (with_picture c.args.self.now.situation c.args.block (with_line (picture_of c.args.self.now.situation c.args.block) c.args.core
    (after_hit c.in-Hit.next c.args.word c.args.op (held_by (picture_of c.args.self.now.situation c.args.block) c.args.core)))) {
      log = c.args.self.now.situation.log ++ item.Did (next_did c.args.self.now.situation.log c.args.core c.args.block c.args.word c.args.op c.in-Hit.value true) ∷ [];
    }
    → AskMove c.args.block c.args.self.now.situation c.args.core c.args.block c.args.word c.args.op answer new
hit g c answer new replied after =
    let t = rw c.in-Hit.is at c.requires.found in
    record {
      on_block = refl;
      within = (c.requires.core, c.requires.block);
      moves = inr (record {
        row = record { action = action.Hit; next = c.in-Hit.next };
        is_row = t.0;
        held = _;
        entry = _;
        taken = (c.in-Hit.value, (t.1, replied, refl));
        after = after;
      });
      has_word = c.requires.word;
    }

-- a load leaves the line as it is
pub returns-in-Load-clause-moved : goal.returns-in-Load-clause-moved
returns-in-Load-clause-moved g c =
    let s = c.args.self.now.situation in
    let line = held_by (picture_of s c.args.block) c.args.core in
    let load = c.in-Load.is in
    let t = rw c.in-Hit.is at c.requires.found in
    let row = rw load at t.0 in
    let still : c.in-Hit.next ≡ line.state = grind arith in
    let same : after_hit c.in-Hit.next c.args.word c.args.op line ≡ line = grind arith in
    let kept : slice_set s.pictures c.args.block (with_line (picture_of s c.args.block) c.args.core line) ≡ s.pictures =
    rw (set-get_or (picture_of s c.args.block).caches c.args.core nothing_held) (set-get_or s.pictures c.args.block nothing_there) in
    hit g (goal.at.returns-in-Load-clause-moved g c).In-Hit _ _ (rw load refl) (rw (same, kept, c.push.ensures, c.next_did-did.ensures, ← c.self.view_is) refl)

pub returns-in_default-clause-moved : goal.returns-in_default-clause-moved
returns-in_default-clause-moved g c =
    hit g (goal.at.returns-in_default-clause-moved g c).In-Hit _ _ (grind (arith, c.in_default.not-Load))
    (c.move_line.ensures.written ∙ rw (c.push.ensures, c.next_did-did.ensures, ← c.self.view_is) refl)

pub returns-in_default-clause-lines : goal.returns-in_default-clause-lines
returns-in_default-clause-lines g c k = rw (← c.self.view_is) (grind (arith, c.move_line.ensures.lines k))
