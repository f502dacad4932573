use Rattle.snoop_machine.proofs.Common.{◌≡◌, ℕ, List, ◌<◌, ◌-◌, ◌++◌, ◌∷◌, [], Option, Some, ◌∙◌, refl, sym, ap, arith, length-set, length-append, length-drop, set-get_or, zero_words, Open, waiting_of, head_of, Starts, Picture, row_of, MemTables, memory_line, fields}
use Rattle.snoop_history.specs.declared.items.Item.TheVariants as item
use Rattle.snoop_machine.proofs.PartsViews.{follows-rows, seen, line_seen, picture-written, sized_on, held_in-set, keeps_room, head_from_line, head_alone, queues_of-order, IsSound-order}
use Rattle.snoop_machine.proofs.parts.Parts.start.Goals as goal
use Rattle.snoop_machine.proofs.parts.Parts.start.Goals.{After-words_sent-words, After-start}

-- the head of the core's queue
head : (g : _) (c : After-words_sent-words g) → head_of c.self.inside.bus c.args.core ≡ Some (c.args.request, c.args.block)
head g c =
    head_from_line c.self.invariant.sound c.args.core c.args.request c.args.block (rw (← c.self.view_is) at c.requires.head.first)
    (rw (line_seen c.self.invariant c.self.view_is c.args.core c.args.block) at c.requires.head.waits)

pub take_rows-requires-clause-rows : goal.take_rows-requires-clause-rows
take_rows-requires-clause-rows g c = rw (seen c.self.invariant c.self.view_is c.args.block, ← c.self.view_is) at c.requires.rows

pub start-requires-clause-head : goal.start-requires-clause-head
start-requires-clause-head g c = rw (head g (goal.at.start-requires-clause-head g c).After-words_sent-words) refl

pub start-requires-clause-free : goal.start-requires-clause-free
start-requires-clause-free g c =
    rw (head g (goal.at.start-requires-clause-free g c).After-words_sent-words)
    (sym (ap (λ (x : Picture). x.transaction) (seen c.self.invariant c.self.view_is c.args.block)) ∙ c.requires.free)

pub words_sent-words-requires-clause-sender : goal.words_sent-words-requires-clause-sender
words_sent-words-requires-clause-sender g c =
    let row = c.self.invariant.sound.row c.args.block (rw (← c.self.view_is) at c.requires.head.within) in
    grind (arith, seen c.self.invariant c.self.view_is c.args.block, row, c.self.view_is, c.requires.sender.sends)

-- the request leaves the core's queue, and its transaction opens
starts : (g : _) (c : After-start g)
    → Starts c.self.inside.bus c.start.new.self c.args.core c.args.request c.args.block c.args.payload c.words_sent-words.result c.args.from
starts g c = rw (head g (goal.at.After-start g c).After-words_sent-words) at c.start.ensures

-- the transaction that is open now
abbrev opened : (g : _) (c : After-start g) → Open
opened g c =
    record { core = c.args.core; request = c.args.request; block = c.args.block; payload = c.args.payload; value = c.words_sent-words.result; from = c.args.from }

-- the block's picture now
abbrev next : (g : _) (c : After-start g) → Picture
next g c = record {
  caches = row_of c.take_rows.new.self.rows c.args.block;
  memory = record { state = c.args.memory; value = (memory_line c.self.inside.memory c.args.block).value };
  transaction = Some (opened g c);
}

pub invariant_of-self : goal.invariant_of-self
invariant_of-self g c =
    let d = (goal.at.invariant_of-self g c).After-start in
    record {
      sound = rw c.take_rows.ensures.wrote.rows (IsSound-order c.self.invariant.sound (rw (← c.self.view_is) at c.requires.core)
          (rw (← c.self.view_is) at c.requires.head.within)
          (head g (goal.at.invariant_of-self g c).After-words_sent-words) (starts g d) c.take_rows.ensures.taken);
      sized = rw c.push.ensures (sized_on _ _ c.self.invariant.sized refl c.take_rows.ensures.wrote.many
          (rw c.move_to.ensures (length-set c.self.inside.memory.states c.args.block c.args.memory, refl)) (refl, refl, refl));
    }

pub returns : goal.returns
returns g c =
    let d = (goal.at.returns g c).After-start in
    let m = fields c.self.inside.protocol c.self.inside.shape c.self.inside.lines c.self.inside.memory c.self.inside.bus c.self.inside.log in
    let core = c.args.core in
    let block = c.args.block in
    let here = seen c.self.invariant refl block in
    let its = head g (goal.at.returns g c).After-words_sent-words in
    let words = ap (λ (m : MemTables). m.words) c.move_to.ensures ∙ sym (set-get_or m.memory.words block zero_words) in
    let wrote = picture-written c.self.invariant refl block (next g d) _ _ _ _ c.take_rows.ensures.wrote.rows (ap (λ (m : MemTables). m.states) c.move_to.ensures) words
    (starts g d).transactions in
    let left = queues_of-order m.bus.queues core block (starts g d).room c.args.request its
    (head_alone c.self.invariant.sound core c.args.request block its).1 in
    let fewer = length-drop 1 (waiting_of m.bus core).requests in
    let more = (starts g d).more in
    let sent = item.Sent (record { core = core; request = c.args.request; block = block }) ∷ [] in
    let long = length-append m.log.items sent in
    let room : 0 < m.log.room = rw (← c.self.view_is) at c.requires.room in
    record {
      ordered = rw (← c.self.view_is) (record {
        ready = (rw (← c.self.view_is) at c.requires.head.waits, rw (← c.self.view_is) at c.requires.free);
        from = c.args.from;
        payload = c.args.payload;
        sent = rw (← c.self.view_is) at c.requires.sender;
        next = next g d;
        taken = rw here c.take_rows.ensures.taken;
        memory = rw (← c.self.view_is) at c.requires.memory;
        value = sym (ap (λ (x : Picture). x.memory.value) here);
        opened = ap (λ (x : List ℕ). let o : Option Open = Some (record (opened g d) { value = x }) in o) (rw (← c.self.view_is) at c.words_sent-words.ensures);
        after = rw (wrote, (starts g d).queues, left, c.push.ensures);
      });
      room = rw c.push.ensures (keeps_room c.self.invariant c.self.view_is c.take_rows.new.self c.move_to.new.self c.start.new.self
          (record m.log { items = m.log.items ++ sent; room = m.log.room - 1 }) (omega arith)
          (held_in-set c.self.invariant c.self.view_is c.start.new.self core _ (starts g d).queues c.requires.core (omega arith)) c.take_rows.ensures.wrote.room);
      lines = follows-rows c.self.invariant c.self.view_is _ block (next g d) c.take_rows.new.self c.requires.head.within wrote refl refl c.take_rows.ensures.wrote;
    }
