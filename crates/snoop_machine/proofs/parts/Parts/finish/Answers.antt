-- A transaction closes: memory takes its message, and the lines are those that took it.
use Rattle.snoop_machine.proofs.Common.{◌≡◌, ◌≢◌, ◌<◌, None, Some, refl, sym, ◌∙◌, PutM, Fills, Line, filled_line, line_at, fields, Open, Protocol, Access, Came, Held, WritesLine, ℕ, IsProper, IsProper-fill, waiting_request, ap, fill-waits, I, ◌-◌, ◌++◌, ◌∷◌, List, [], Option, arith, option_map, slice_set, same_Some, length-set, length-append, Did, Item, Request, transaction_on, ArrivesFor, FillsRequestor, RespondMove, came_of, written, MemLine, Picture, picture_of, LosesLines, WritesRow, row_of, memory_line, Fields, standing, IsSound, IsWhole, IsClosing, Standing, KeepsRoom}
use Rattle.snoop_machine.proofs.PartsViews.{WritesRow-more, WritesRow-none, row_after, IsSound-line, IsSound-close, follows-rows, keeps_room, line_seen, picture-written, rows_in, row_in, seen, sized_on}
use Rattle.snoop_rules.specs.declared.names.MemCell.{MemCell}
use Rattle.snoop_history.specs.declared.items.Item.TheVariants as item
use Rattle.snoop_model.specs.declared.replies.Reply.TheVariants as reply
use Rattle.snoop_machine.specs.declared.parts.step.Filled.{Filled}
use Rattle.snoop_machine.proofs.parts.Parts.finish.Goals as goal
use Rattle.snoop_machine.proofs.parts.Parts.finish.Goals.{In-Some, in-Some-filled, in_default-filled}

-- of the block of this response the transaction is open, and what memory does was found
record Closes (m : Fields) (now : Standing) (came : Came) (memory : MemCell) (closing : Open) : Type 0 where
  pub count : ℕ
  pub whole : IsWhole count m
  pub view : standing m ≡ now
  pub within : came.block < now.situation.shape.blocks
  pub found : IsClosing now.situation came memory
  pub is_open : transaction_on m.bus came.block ≡ Some closing

-- what the response brings has come to the lines of its block
record Arrives (m : Fields) (came : Came) (closing : Open) (did : Option Did) (lines : Held) : Type 0 where
  pub wrote : WritesRow came.block m.lines lines
  pub sound : IsSound m.shape lines.rows m.bus
  pub arrives : ArrivesFor closing.request closing m.protocol m.log.items (row_of m.lines.rows came.block) (row_of lines.rows came.block) did

-- the data of another request than a PutM fills the requestor's line
arrives_get : {closing : Open} {p : Protocol} {log : List Item} {old new : List Line} {did : Option Did} (q : Request) → q ≢ PutM
    → FillsRequestor closing p log old new did → ArrivesFor q closing p log old new did
arrives_get PutM get fills = absurd (get refl)
arrives_get _ get fills = fills

module _ {m : Fields} {now : Standing} {came : Came} {memory : MemCell} {closing : Open} (closes : Closes m now came memory closing) where
  -- callers see it open, and the response is its
  opened : (picture_of now.situation came.block).transaction ≡ Some closing
  opened = ap (λ (p : Picture). p.transaction) (seen closes.whole closes.view came.block) ∙ closes.is_open

  header : came_of closing ≡ came
  header = same_Some _ _ (sym (ap (option_map came_of) opened) ∙ closes.found.opened)

  -- memory's line of the block then
  abbrev settled : MemLine
  settled = record { state = memory.next; value = written memory.action closing.value (memory_line m.memory came.block).value }

  module _ {did : Option Did} {lines : Held} (its : Arrives m came closing did lines) where
    abbrev closed : Fields
    closed = record m {
      lines = lines;
      memory = record { states = slice_set m.memory.states came.block settled.state; words = slice_set m.memory.words came.block settled.value };
      bus = record m.bus { transactions = slice_set m.bus.transactions came.block None };
      log = record m.log { items = m.log.items ++ item.Came came did ∷ []; room = m.log.room - 1 };
    }

    -- the block's picture now
    abbrev next : Picture
    next = record { caches = row_of lines.rows came.block; memory = settled; transaction = None }

    whole_after : IsWhole closes.count closed
    whole_after = record {
      sound = IsSound-close its.sound came.block (rw (← closes.view) at closes.within);
      sized = sized_on m closed closes.whole.sized refl its.wrote.many
          (length-set m.memory.states came.block settled.state, length-set m.memory.words came.block settled.value) (refl, refl, refl);
    }

    -- it is the move of a Respond, by which no room is lost, and as many lines go as cores move to I
    responded : 0 < now.room → RespondMove came.block now.situation came.block (reply.Came came.payload came.from did) (standing closed).situation
        × KeepsRoom now (standing closed) × ((k : ℕ) → LosesLines now (standing closed) k)
    responded room =
        let here = seen closes.whole refl came.block in
        let pictures = picture-written closes.whole refl came.block next lines.rows _ _ _ its.wrote.rows refl refl refl in
        let had : 0 < m.log.room = rw (← closes.view) at room in
        let long = length-append m.log.items (item.Came came did ∷ []) in (
          rw (← closes.view) (record {
            closing = closing;
            did = did;
            on_block = refl;
            within = rw (← closes.view) at closes.within;
            answered = ap (λ (x : Came). reply.Came x.payload x.from did) (sym header);
            responds = record {
              opened = rw (← closes.view) at opened;
              next = next;
              requestor = rw here its.arrives;
              memory = record {
                act = memory.action;
                settled = rw (ap (λ (x : Came). x.request) header, ap (λ (x : Came). x.payload) header) (rw (← closes.view) at closes.found.settles);
                value = ap (λ (x : Picture). written memory.action closing.value x.memory.value) (sym here);
              };
              closed = refl;
              after = cc (header, pictures);
            };
          }),
          keeps_room closes.whole closes.view lines closed.memory closed.bus closed.log (omega arith) (λ core. omega arith) its.wrote.room,
          follows-rows closes.whole closes.view (standing closed) came.block next lines closes.within pictures refl refl its.wrote,
        )

-- a line that was filled
module _ {closing : Open} {p : Protocol} {old new : Line} {asking : Access} {value : ℕ} (its : Fills closing p old new asking value) where
  proper-filled : IsProper new
  proper-filled = rw its.held (IsProper-fill p old.state its.event its.row.action its.row.next asking.op its.after its.fill its.is_row)

  waits-filled : waiting_request new.state ≡ waiting_request old.state
  waits-filled =
      ap (λ (x : Line). waiting_request x.state) its.held ∙ fill-waits p old.state its.event its.row.action its.row.next asking.op its.fill its.is_row

  -- it held an operation that waits, so it was not in I
  held-filled : IsProper old → old.state ≢ I
  held-filled proper e = let waits = proper.waiting in let waited = its.waited in cc

abbrev closes : (g : _) (c : In-Some g)
    → Closes (fields c.self.inside.protocol c.self.inside.shape c.self.inside.lines c.self.inside.memory c.self.inside.bus c.self.inside.log) c.args.self.now c.args.came c.args.memory c.in-Some.closing
closes g c = record { count = _; whole = c.self.invariant; view = c.self.view_is; within = c.requires.block; found = c.requires.closing; is_open = sym c.finish.ensures.closed ∙ c.in-Some.is }

-- of a PutM nothing comes to the lines
put : (g : _) (c : In-Some g) → c.args.filled ≡ None
    → Arrives (fields c.self.inside.protocol c.self.inside.shape c.self.inside.lines c.self.inside.memory c.self.inside.bus c.self.inside.log) c.args.came c.in-Some.closing c.filled_did-did.result c.self.inside.lines
put g c none =
    let put : c.in-Some.closing.request ≡ PutM = ap (λ (x : Came). x.request) (header (closes g c)) ∙ (rw none at c.requires.filled) in
    record {
      wrote = WritesRow-none c.args.came.block c.self.inside.lines;
      sound = c.self.invariant.sound;
      arrives = rw put (refl, rw none at c.filled_did-did.ensures);
    }

-- the fill, on the line that the maps hold
fills : (g : _) (c : In-Some g) (filled : Filled) → c.args.filled ≡ Some filled
    → Fills c.in-Some.closing c.self.inside.protocol (line_at c.self.inside.lines.rows c.in-Some.closing.core c.args.came.block)
    (filled_line filled.next filled.access c.in-Some.closing.value) filled.access filled.value
fills g c filled is =
    rw (opened (closes g c), line_seen c.self.invariant c.self.view_is c.in-Some.closing.core c.args.came.block, ← c.self.view_is) at (rw is at c.requires.filled).1

core_is : (g : _) (c : In-Some g) → c.in-Some.closing.core ≡ c.args.came.core
core_is g c = ap (λ (x : Came). x.core) (header (closes g c))

get : (g : _) (c : In-Some g) (filled : Filled) → c.args.filled ≡ Some filled → (lines : Held)
    → WritesLine c.args.came.core c.args.came.block (filled_line filled.next filled.access c.in-Some.closing.value) c.self.inside.lines lines
    → Arrives (fields c.self.inside.protocol c.self.inside.shape c.self.inside.lines c.self.inside.memory c.self.inside.bus c.self.inside.log) c.args.came c.in-Some.closing c.filled_did-did.result lines
get g c filled is lines writes =
    let closing = c.in-Some.closing in
    let core = closing.core in
    let block = c.args.came.block in
    let its = fills g c filled is in
    let wrote : WritesLine core block (filled_line filled.next filled.access closing.value) c.self.inside.lines lines = rw (core_is g c) writes in
    let get : closing.request ≢ PutM = rw (← header (closes g c)) at (rw is at c.requires.filled).0 in
    let in_cores : core < c.args.self.now.situation.shape.cores = rw (core_is g c) c.requires.closing.core in
    let in_rows = rows_in c.self.invariant c.self.view_is block c.requires.block in
    record {
      wrote = WritesRow-more wrote in_rows c.self.inside.lines (WritesRow-none block c.self.inside.lines)
          (row_in c.self.invariant c.self.view_is core block in_cores c.requires.block) refl;
      sound = rw wrote.rows (IsSound-line c.self.invariant.sound core block _ (rw (← c.self.view_is) at in_cores)
          (rw (← c.self.view_is) at c.requires.block) (proper-filled its) (waits-filled its));
      arrives = arrives_get closing.request get (record {
        line = _;
        asking = filled.access;
        value = filled.value;
        fills = its;
        held = row_after wrote in_rows;
        logged = rw (is, ← c.self.view_is, ← header (closes g c)) at c.filled_did-did.ensures;
      });
    }

-- the transaction is open
pub unreachable-requires : goal.unreachable-requires
unreachable-requires g c =
    let clash = rw (seen c.self.invariant c.self.view_is c.args.came.block, sym c.finish.ensures.closed ∙ c.in_default.is) at c.requires.closing.opened in cc

pub fill-requires-clause-proper : goal.fill-requires-clause-proper
fill-requires-clause-proper g c = proper-filled (fills g (goal.at.fill-requires-clause-proper g c).In-Some c.in-Some-filled.filled c.in-Some-filled.is)

pub fill-requires-clause-held : goal.fill-requires-clause-held
fill-requires-clause-held g c =
    let d = (goal.at.fill-requires-clause-held g c).In-Some in
    rw (core_is g d) at (held-filled (fills g d c.in-Some-filled.filled c.in-Some-filled.is) (c.self.invariant.sound.proper c.in-Some.closing.core c.args.came.block))

pub invariant_of-self : goal.invariant_of-self
invariant_of-self g c =
    let d = (goal.at.invariant_of-self g c).In-Some in
    rw (c.settle.ensures, c.push.ensures) (elim c.match-filled.branch [
      | in-Some-filled w ↦ rw (w.self-inside-is, c.finish.ensures.after) (whole_after (closes g d) (get g d w.in-Some-filled.filled w.in-Some-filled.is _ w.fill.ensures))
      | in_default-filled w ↦ rw (w.self-inside-is, c.finish.ensures.after) (whole_after (closes g d) (put g d w.in_default-filled.is))
    ])

pub returns : goal.returns
returns g c =
    let d = (goal.at.returns g c).In-Some in
    rw (c.settle.ensures, c.push.ensures) (elim c.match-filled.branch [
      | in-Some-filled w ↦ rw (w.self-inside-is, c.finish.ensures.after)
          (let its = responded (closes g d) (get g d w.in-Some-filled.filled w.in-Some-filled.is _ w.fill.ensures) c.requires.room in
          record { responded = its.0; room = its.1; lines = its.2 })
      | in_default-filled w ↦ rw (w.self-inside-is, c.finish.ensures.after)
          (let its = responded (closes g d) (put g d w.in_default-filled.is) c.requires.room in
          record { responded = its.0; room = its.1; lines = its.2 })
    ])
