-- What a step comes to, computed: what it is answered, and where it leads. Where a table has no row, which no run meets, the state stays.
use Rattle.std.specs.Bool.{Decides}
use Rattle.snoop_model.proofs.Common.{[], Access, after_order, ap, arith, arrival, arrival_at_memory, ArrivesFor, as_access, Ask, asked, at_memory, Bool, BusTaken, CacheAction, CacheCell, CacheState, came_of, CanOrder, cases_Bool, Cell, cell_of, Data, Did, Drop, Err, Evict, Extent, false, fill_by_all, FillsRequestor, FirstMove, free_picture, get_or-map-range_with_len, GoesFirst, HasWord, held_at, held_by, Hit, Hits, if◌then◌else◌, inl, inr, Invariant, is_load, is_put_m, is_some, IsOnlySender, IsProper, Issue, IsWithin, Item, le-ltb, length, length-map-range_with_len, Line, List, lt-ltb, ltb, ltb-false, ltb-true, map, MemLine, memory_cell_of, moves_to, next_did, NoBlock, NoCore, None, none-some, none_from_not_some, nothing_held, NothingWaiting, NoTransaction, Ok, Op, Open, Option, option_map_or, option_to_list, Order, Orders, Payload, Picture, picture_of, Protocol, PutM, queue_of, queues_after, range_with_len, StandsFirst, refl, Refused, Refuses, Reply, Request, Respond, Responds, Result, seen_by, Situation, slice_get, slice_set, Some, Stall, Stalled, state_of, Step, Store, suc, sym, Takes, takes_payload, true, unwrap_or, value_sent, waiting_request, with_line, with_picture, word_at, word_places, words_after, written, zero, zero_words, ℕ, ◌&&◌, ◌++◌, ◌<◌, ◌∙◌, ◌∷◌, ◌≡◌, ◌≤◌}
use Rattle.snoop_model.proofs.{Invariant.Coherence.{finds_rows, idle_evict, orders_follow_sender_table, waits_within}, Lines.{IsBelow, sends_below}}
use Rattle.snoop_model.proofs.{OneBlock.{AfterMoves.changed, RespondStep.{answered, close}}, Queues.{AreQueued, first_waits, none_waits}}
use Rattle.snoop_model.proofs.Tables.{OrderTests.{data_rule, payload_from, row_for, sends_is, sends_row, settled_row, settled_so}, Rows.{action_rule, ask_rule, hit_keeps, is_idle_evict, serving-asked, some_of}}
use Rattle.snoop_rules.specs.declared.names.MemAction.TheVariants as mem_action
use Rattle.snoop_rules.specs.declared.names.Payload.TheVariants as payload
use Rattle.snoop_history.specs.declared.items.Item.TheVariants as item
use Rattle.snoop_model.specs.declared.replies.Reply.TheVariants as reply

-- what a step is answered, and where it leads
abbrev pub Next : Type 0
Next = Result Reply Refused × Situation

-- the value that an operation on a word loads or stores
abbrev pub value_of : ℕ → Op → Data → ℕ
value_of word (Store stored) before = stored
value_of word _ before = word_at before word

-- the operation may be of this word
abbrev pub has_word : Extent → ℕ → Op → Bool
has_word shape word Evict = true
has_word shape word _ = ltb word shape.words && ltb word word_places

-- An Ask by a row, and one within the shape: only an Evict in I has no row.
module _ (s : Situation) (core block word : ℕ) (asking : Op) where
  abbrev pub asker : Line
  asker = held_by (picture_of s block) core

  abbrev pub after_ask : CacheAction → Line → Option Item → Situation
  after_ask act held entry =
      changed s block (with_line (picture_of s block) core held) (queues_after act s.queues core block) (s.log ++ option_to_list entry)

  abbrev pub by_row : CacheAction → CacheState → Next
  by_row Hit next =
      let before = unwrap_or asker.kept zero_words in
      let value = value_of word asking before in
      let held : Line = record { state = next; kept = Some (words_after word asking before); waiting = asker.waiting } in
      let did : Item = item.Did (next_did s.log core block word asking value true) in
      (Ok (if is_load asking then reply.Hit value else reply.StoreHit), after_ask Hit held (Some did))
  by_row (Issue request) next =
      let held : Line = record (moves_to next asker) { waiting = as_access word asking } in
      (Ok (reply.Issued request), after_ask (Issue request) held None)
  by_row Drop next = (Ok reply.Gone, after_ask Drop (moves_to next asker) None)
  by_row _ next = (Err (Stalled asker.state), s)

  abbrev pub next_asked : Next
  next_asked = option_map_or (λ row. by_row row.action row.next) (cell_of s.protocol asker.state (asked asking)) (Ok reply.Absent, s)

-- An Order seen by all caches and memory, each with its row.
module _ (p : Protocol) (before : Picture) (core : ℕ) (request : Request) where
  -- the last core below n whose row sends, else memory
  abbrev pub sender_below : ℕ → Option ℕ
  sender_below zero = None
  sender_below (suc n) = if is_some (payload_from p before core request (Some n)) then Some n else sender_below n

  abbrev pub line_after : ℕ → Line
  line_after k =
      let held = held_by before k in
      moves_to (option_map_or (λ row. row.next) (cell_of p held.state (seen_by k core request)) held.state) held

  abbrev pub next_picture : ℕ → Picture
  next_picture block =
      let from = sender_below (length before.caches) in
      let payload = unwrap_or (payload_from p before core request from) payload.Data in
      record {
        caches = map line_after (range_with_len 0 (length before.caches));
        memory = record {
          state = option_map_or (λ row. row.next) (memory_cell_of p before.memory.state (at_memory request)) before.memory.state;
          value = before.memory.value;
        };
        transaction = Some (record { core = core; request = request; block = block; payload = payload; value = value_sent before from payload; from = from });
      }

abbrev pub next_ordered : Situation → ℕ → ℕ → Request → Next
next_ordered s core block request =
    let sent : Item = item.Sent (record { core = core; request = request; block = block }) in
    (Ok (reply.Ordered request), changed s block (next_picture s.protocol (picture_of s block) core request block) (after_order s.queues core block) (s.log ++ sent ∷ []))

-- A Respond: what it brings to the lines, with the operation that it performs, and to memory.
module _ (closing : Open) (p : Protocol) (log : List Item) (lines : List Line) where
  abbrev pub filled : Option Access → List Line × Option Did
  filled None = (lines, None)
  filled (Some access) =
      let held = held_at lines closing.core in
      let next = option_map_or (λ row. row.next) (row_for p held.state (arrival closing.payload)) held.state in
      let line : Line = record { state = next; kept = Some (words_after access.word access.op closing.value); waiting = None } in
      let did = next_did log closing.core closing.block access.word access.op (value_of access.word access.op closing.value) false in
      (slice_set lines closing.core line, Some did)

  abbrev pub brought : Request → List Line × Option Did
  brought PutM = (lines, None)
  brought _ = filled (held_at lines closing.core).waiting

abbrev pub next_closed : Situation → ℕ → Open → Next
next_closed s block closing =
    let before = picture_of s block in
    let caches = brought closing s.protocol s.log before.caches closing.request in
    let memory = unwrap_or (settled_row s.protocol closing.request before.memory.state closing.payload) (record { action = mem_action.None; next = before.memory.state }) in
    let next = free_picture caches.0 (record { state = memory.next; value = written memory.action closing.value before.memory.value }) in
    (Ok (reply.Came closing.payload closing.from caches.1), record (with_picture s block next) { log = s.log ++ item.Came (came_of closing) caches.1 ∷ [] })

-- an Order of the block that stands first, if any
abbrev pub next_first : Situation → ℕ → Option ℕ → Next
next_first s core None = (Err NothingWaiting, s)
next_first s core (Some block) =
    if is_some (picture_of s block).transaction then (Err (BusTaken block), s)
    else option_map_or (next_ordered s core block) (waiting_request (state_of s core block)) (Err NothingWaiting, s)

abbrev pub next_of : Situation → Step → Next
next_of s (Ask core block word asking) =
    if ltb core s.shape.cores
    then if ltb block s.shape.blocks && has_word s.shape word asking then next_asked s core block word asking else (Err NoBlock, s)
    else (Err NoCore, s)
next_of s (Order core) = if ltb core s.shape.cores then next_first s core (slice_get (queue_of s.queues core) 0) else (Err NoCore, s)
next_of s (Respond block) = if ltb block s.shape.blocks then option_map_or (next_closed s block) (picture_of s block).transaction (Err NoTransaction, s) else
    (Err NoBlock, s)

-- An Ask.
module _ (s : Situation) (core block word : ℕ) (asking : Op) where
  place : Decides (ltb block s.shape.blocks && has_word s.shape word asking) ((block < s.shape.blocks) × HasWord s.shape word asking)
  place = (λ h. grind (arith, h), λ h. grind (arith, h))

-- An Order.
module _ (p : Protocol) (before : Picture) (core : ℕ) (q : Request) where
  -- the only sender is found
  sender_is : (n : ℕ) → n ≤ length before.caches → (from : Option ℕ) (payload : Payload) → IsOnlySender p before core q from payload → IsBelow n from
      → sender_below p before core q n ≡ from
  sender_is zero few from payload sent below = grind (arith, below)
  sender_is (suc n) few from payload sent below = elim (cases_Bool (is_some (payload_from p before core q (Some n)))) [
    | inl is ↦ let x = some_of _ is in rw is (sent.alone (Some n) x.0 (omega arith, sends_row _ x.0 x.1))
    | inr none ↦ rw none (sender_is n (omega arith) from payload sent (grind (arith, none, below, sends_is p before core q from payload sent.sends)))
  ]

-- a move comes to what is computed
move_is : (s : Situation) (step : Step) (answer : Reply) (new : Situation) → FirstMove s step answer new
    → ◌≡◌ {A = Next} (Ok answer, new) (next_of s step)
move_is s (Ask core on word asking) answer new (block, (first, m)) =
    rw (m.on_block, lt-ltb core s.shape.cores m.within.0, (place s core block word asking).1 (m.within.1, m.has_word)) (elim m.moves [
      | inl a ↦ rw (a.2, a.3, a.1, a.0) refl
      | inr a ↦ rw (a.after, a.is_row) (grind (arith, a.taken))
    ])
move_is s (Order core) answer new (block, (first, m)) =
    let p = s.protocol in
    let q = m.request in
    let o = m.orders in
    let before : Picture = picture_of s block in
    let from = sender_is p before core q (length before.caches) (omega arith) o.from o.payload o.sent (sends_below p before core q _ _ o.sent.sends) in
    let caches = fill_by_all (line_after p before core q) o.next.caches (length before.caches) nothing_held o.taken.same_length
    (λ k below. (let row = o.taken.rows k below in row.2 ∙ rw row.1 refl)) in
    let next : o.next ≡ next_picture p before core q block =
    grind (arith, caches, from, sends_is p before core q o.from o.payload o.sent.sends, o.memory.1, o.memory.2, o.value, o.opened) in
    rw (m.answered, lt-ltb core s.shape.cores m.within.0, first, o.ready.1, o.ready.0, o.after, next) refl
move_is s (Respond on) answer new (block, (first, m)) =
    let r = m.responds in
    let o = m.closing in
    let before : Picture = picture_of s block in
    let caches : ◌≡◌ {A = List Line × Option Did} (r.next.caches, m.did) (brought o s.protocol s.log before.caches o.request) = grind (arith, r.requestor) in
    let memory = (settled_so (takes_payload o.request before.memory.state) s.protocol (arrival_at_memory o.payload) before.memory.state r.memory.act r.next.memory.state).0 r.memory.settled in
    let line : MemLine = record { state = r.next.memory.state; value = written r.memory.act o.value before.memory.value } in
    let next : r.next ≡ free_picture (brought o s.protocol s.log before.caches o.request).0 line =
    grind (arith, caches, r.memory.value, r.closed) in
    rw (m.on_block, m.answered, lt-ltb block s.shape.blocks m.within, r.opened, r.after, memory, next, ap (λ x. x.1) caches) refl

-- and so does a refusal
module _ (s : Situation) (queued : AreQueued s) where
  refused_is : (step : Step) (cause : Refused) → Refuses s step cause → ◌≡◌ {A = Next} (Err cause, s) (next_of s step)
  refused_is (Order core) NothingWaiting h =
      let empty = none_from_not_some (slice_get (queue_of s.queues core) 0)
      (λ block is. let waits = first_waits s queued core block is in h.1 block waits.0 waits.1) in
      rw (lt-ltb core s.shape.cores h.0, empty) refl
  refused_is step cause h = grind (arith, h, lt-ltb, le-ltb, place s)

  pub goes_is : (step : Step) (outcome : Result Reply Refused) (new : Situation) → GoesFirst s step outcome new → (outcome, new) ≡ next_of s step
  goes_is step (Ok answer) new goes = move_is s step answer new goes
  goes_is step (Err cause) new goes = rw goes.1 (refused_is step cause goes.0)

module _ (s : Situation) (core block word : ℕ) (asking : Op) (within : IsWithin s core block) (has : HasWord s.shape word asking) where
  taken : (act : CacheAction) (next : CacheState) → Cell s.protocol (state_of s core block) (asked asking) act next
      → (held : Line) (answer : Reply) (entry : Option Item) → Takes act next s.log core block word asking (held_by (picture_of s block) core) held answer entry
      → GoesFirst s (Ask core block word asking) (Ok answer) (after_ask s core block word asking act held entry)
  taken act next row held answer entry takes =
      let moves = inr (record { row = record { action = act; next = next }; is_row = row; held = held; entry = entry; taken = takes; after = refl }) in
      (block, (tt, record { on_block = refl; within = within; moves = moves; has_word = has }))

  goes_by : (act : CacheAction) (next : CacheState) → Cell s.protocol (state_of s core block) (asked asking) act next
      → IsProper (held_by (picture_of s block) core)
      → (let n = by_row s core block word asking act next in GoesFirst s (Ask core block word asking) n.0 n.1)
  goes_by Hit next row proper =
      let ws = unwrap_or (asker s core block word asking).kept zero_words in
      let asks = hit_keeps s.protocol (state_of s core block) (asked asking) next row in
      let held : Line = record { state = next; kept = Some (words_after word asking ws); waiting = (asker s core block word asking).waiting } in
      let hits : Hits next (asker s core block word asking) held word asking (value_of word asking ws) = grind (arith, proper.kept, asks) in
      taken Hit next row _ _ _ (value_of word asking ws, (hits, refl, refl))
  goes_by Stall next row proper = ((within, refl, (next, row), has), refl)
  goes_by (Issue r) next row proper = taken (Issue r) next row _ _ None (refl, refl, refl)
  goes_by Drop next row proper = taken Drop next row _ _ None (refl, refl, refl)
  goes_by _ next row proper = absurd (none-some _ (sym (action_rule s.protocol (state_of s core block) (asked asking) _ next row).0 ∙ serving-asked asking))

  goes_within : Invariant s → (let n = next_asked s core block word asking in GoesFirst s (Ask core block word asking) n.0 n.1)
  goes_within g =
      let good = g.blocks block within.1 in
      elim (cases_Bool (is_idle_evict (state_of s core block) (asked asking))) [
        | inl idle ↦
            let is = idle_evict (state_of s core block) asking idle in
            rw (is.1, is.0) (block, (tt, record { on_block = refl; within = within; moves = inl (refl, is.1, refl, refl); has_word = tt }))
        | inr busy ↦
            let row = (ask_rule _ _ _ _ _ asking (good.states core within.0)).0 busy in
            rw row.1 (goes_by row.0.action row.0.next row.1 (good.proper core within.0))
      ]

module _ (s : Situation) (g : Invariant s) where
  -- an Order of a request that can be ordered: each controller has its row
  pub order_made : (core block : ℕ) (q : Request) → CanOrder s core block q → Orders s core block q (next_ordered s core block q).1
  order_made core block q ready =
      let p = s.protocol in
      let before : Picture = picture_of s block in
      let line = orders_follow_sender_table s g core block q ready in
      let from = sender_is p before core q (length before.caches) (omega arith) line.from line.payload line.sent (sends_below p before core q _ _ line.sent.sends) in
      record {
        ready = ready;
        from = line.from;
        payload = line.payload;
        sent = line.sent;
        next = _;
        taken = record {
          same_length = length-map-range_with_len (line_after p before core q) 0 (length before.caches);
          rows = λ k below.
              let row = (finds_rows s g (Order core)).cache k block (Some (seen_by k core q)) (q, (ready, refl)) in
              let is = get_or-map-range_with_len (line_after p before core q) 0 (length before.caches) k k nothing_held below (omega arith) in
              (row.0, row.1, is ∙ rw row.1 refl);
        };
        memory = (line.ordered.0, line.ordered.1, rw line.ordered.1 refl);
        value = refl;
        opened = rw (from, sends_is p before core q line.from line.payload line.sent.sends) refl;
        after = refl;
      }

-- what the response brings to the caches
module _ (p : Protocol) (log : List Item) (old : List Line) (o : Open) where
  abbrev requestor : Line
  requestor = held_at old o.core

  fills_requestor : (row : CacheCell) → row_for p requestor.state (arrival o.payload) ≡ Some row → IsProper requestor → (let n = filled o p log old requestor.waiting in FillsRequestor o p log old n.0 n.1)
  fills_requestor row found proper =
      let fit = (data_rule p requestor.state o.payload row found).0 in
      let (access, waits) = some_of requestor.waiting (grind (arith, fit, proper.waiting)) in
      rw (waits, found) (record {
        line = record { state = row.next; kept = Some (words_after access.word access.op o.value); waiting = None };
        asking = access;
        value = value_of access.word access.op o.value;
        fills = grind (arith, found, fit, proper.waiting, waits);
        held = refl;
        logged = refl;
      })

  brings : (q : Request) → (is_put_m q ≡ false → (r : CacheCell) × (row_for p requestor.state (arrival o.payload) ≡ Some r)) → IsProper requestor
      → (let n = brought o p log old q in ArrivesFor q o p log old n.0 n.1)
  brings PutM row proper = (refl, refl)
  brings _ row proper = let found = row refl in fills_requestor found.0 found.1 proper

-- each step goes as it is computed
module _ (s : Situation) (g : Invariant s) where
  closes : (block : ℕ) → block < s.shape.blocks → (o : Open) → (picture_of s block).transaction ≡ Some o → (let n = next_closed s block o in GoesFirst s (Respond block) n.0 n.1)
  closes block within o opened =
      let before : Picture = picture_of s block in
      let good = g.blocks block within in
      let found = close good o opened in
      let settles = (settled_so (takes_payload o.request before.memory.state) s.protocol (arrival_at_memory o.payload) before.memory.state found.memory.action found.memory.next).1 found.is_memory in
      let responds : Responds s block o _ (next_closed s block o).1 = record {
        opened = opened;
        next = _;
        requestor = brings s.protocol s.log before.caches o o.request (λ get. let (row, is_row, _) = answered found get in (row, is_row)) (good.proper o.core (good.requestor_in o opened));
        memory = rw found.is_memory (record { act = found.memory.action; settled = settles; value = refl });
        closed = refl;
        after = refl;
      } in
      (block, (tt, record { closing = o; did = _; on_block = refl; within = within; answered = refl; responds = responds }))

  -- an Order of the block that stands first
  goes_first : (core block : ℕ) (q : Request) → StandsFirst s core block → CanOrder s core block q
      → (let n = next_ordered s core block q in GoesFirst s (Order core) n.0 n.1)
  goes_first core block q first ready =
      (block, (first, record { request = q; within = waits_within s g core block q ready.0; answered = refl; orders = order_made s g core block q ready }))

  goes_queued : AreQueued s → (core : ℕ) → core < s.shape.cores → (first : Option ℕ) → slice_get (queue_of s.queues core) 0 ≡ first
      → (let n = next_first s core first in GoesFirst s (Order core) n.0 n.1)
  goes_queued queued core in_cores None none = ((in_cores, none_waits s queued core none), refl)
  goes_queued queued core in_cores (Some block) is =
      let (q, waits) = first_waits s queued core block is in
      grind (arith, waits, is, in_cores, goes_first core block q is)

  pub goes_next : AreQueued s → (step : Step) → GoesFirst s step (next_of s step).0 (next_of s step).1
  goes_next queued (Ask core block word asking) =
      let goes = λ (within : IsWithin s core block) (has : HasWord s.shape word asking). goes_within s core block word asking within has g in
      grind (arith, ltb-true core s.shape.cores, ltb-false core s.shape.cores, place s core block word asking, goes)
  goes_next queued (Order core) =
      let goes = λ (below : core < s.shape.cores). goes_queued queued core below _ refl in
      grind (arith, ltb-true core s.shape.cores, ltb-false core s.shape.cores, goes)
  goes_next queued (Respond block) = grind (arith, ltb-true block s.shape.blocks, ltb-false block s.shape.blocks, closes block)
