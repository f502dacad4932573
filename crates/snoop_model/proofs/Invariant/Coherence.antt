-- What the invariant says of a situation: where nobody owns a block, what lies within the shape, which states a requestor is in, that all rows are found, that one sends.
use Rattle.snoop_rules.specs.Possible.{MayLoad, MayStore}
use Rattle.snoop_model.proofs.Common.{arith, arrival, arrival_at_memory, Ask, asked, awaited_request, BlockInvariant, both_ways, CacheEvent, cases_Bool, CacheState, CanOrder, Cell, eq-eqb, Evict, false, false_from_ne_true, flat_words, FollowsSenderTable, ForSome, get_or_past, HasOpen, held_by, Hit, I, inl, inr, Invariant, is_put_m, is_some, IsSomeAnd, IsWellKept, IsWithin, keeps, length, Line, List, MemEvent, ne_eqb, None, none-some, nothing_held, nothing_there, Op, Open, Option, Order, OrdersFollowSenderTable, owns, Picture, picture_of, Protocol, PutM, refl, Request, Respond, seen_by, Situation, Some, state_of, Step, Store, sym, true, waiting_request, Waits, ℕ, ◌<◌, ◌↔◌, ◌∙◌, ◌≡◌, ◌≢◌, ◌≤◌, GetS}
use Rattle.snoop_model.specs.Moves.LookUps.{ConsultsCache, ConsultsMemory, FindsRows, HasMemRow, HasRow}
use Rattle.snoop_model.proofs.Lists.{if_some}
use Rattle.snoop_model.proofs.OneBlock.{Facts.{it_is, owner_is}, OrderStep.{each_row, look, meant, meant_in, sender_told, sends, sends_if_meant, sent}, RespondStep.{answered, close, Closing}}
use Rattle.snoop_model.proofs.Tables.{OrderTests.{awaited-get, led_line, memory_row_for, row_for}, Rows.{ask_rule, fit_rule, hit_keeps, is_idle_evict, memory_rule, some_of}, Tested.of_open}
use Rattle.snoop_rules.specs.Takers.{other as another}
use Rattle.snoop_rules.specs.declared.names.CacheEvent.TheVariants as event
use Rattle.snoop_model.specs.Pictures.OneWriter.{lets_load, lets_store}

-- where no core may write the block, none owns it
pub nobody_owns : {p : Protocol} {n : ℕ} {value : List ℕ} {picture : Picture} (g : BlockInvariant p n value picture) → ((core : ℕ) → ¬ MayStore p (held_by picture core).state) → g.claims.owned ≡ false
nobody_owns {p} {n} {value} {picture} g idle = sym g.is_owned ∙ false_from_ne_true (is_some g.owner) (λ e.
    let (o, is) = some_of g.owner e in
    let (row, is_row, hit) = (fit_rule _ _ _ _ _ (g.states o (g.owner_in o is))).0 (grind (arith, is)) in
    idle o (row.next, grind (arith, is_row, hit)))

pub idle_evict : (s : CacheState) (o : Op) → is_idle_evict s (asked o) ≡ true → (o ≡ Evict) × (s ≡ I)
idle_evict s o h = grind arith

nothing_asked : (p : Protocol) (o : Op) → (¬ ((o ≡ Evict) × (I ≡ I))) → HasRow p I (asked o)
nothing_asked p Evict busy = absurd (busy (refl, refl))
nothing_asked p _ busy = (_, refl)

nothing_seen : (p : Protocol) (q : Request) → HasRow p I (another q)
nothing_seen p GetS = (_, refl)
nothing_seen p _ = (_, refl)

-- where there is a row, there is an event that has it
has_row : {E R : Type 0} (rows : Option E → Option R) → rows None ≡ None → (found : Option E) → (r : R) × (rows found ≡ Some r) → IsSomeAnd found (λ e. (r : R) × (rows (Some e) ≡ Some r))
has_row rows none found row = grind (arith, none, row)

module _ (s : Situation) (g : Invariant s) where
  -- a block outside the shape has nothing
  pub outside : (block : ℕ) → s.shape.blocks ≤ block → picture_of s block ≡ nothing_there
  outside block past = let long = g.shaped.pictures in get_or_past s.pictures block nothing_there (omega arith)

  -- what holds of each line of the machine, and of a core that holds nothing, holds of every core's
  pub each_line : (core block : ℕ) (P : Line → Type 0) → (IsWithin s core block → P (held_by (picture_of s block) core)) → P nothing_held → P (held_by (picture_of s block) core)
  each_line core block P here nothing = grind (arith, here, nothing, outside block, g.shaped.row block, get_or_past (picture_of s block).caches core nothing_held)

  -- a core whose line is none that holds nothing is there, and so is the block
  pub held_within : (core block : ℕ) (P : Line → Type 0) → ¬ P nothing_held → P (held_by (picture_of s block) core) → IsWithin s core block
  held_within core block P none = each_line core block (λ x. P x → IsWithin s core block) (λ within h. within) (λ h. absurd (none h))

  -- a core whose row is a hit keeps words, so it is there, and so is the block
  pub hit_within : (core block : ℕ) (e : CacheEvent) → (n : CacheState) × Cell s.protocol (state_of s core block) e Hit n
      → (keeps (state_of s core block) ≡ true) × IsWithin s core block
  hit_within core block e hits =
      let keeping = (hit_keeps s.protocol (state_of s core block) e hits.0 hits.1).0 in
      (keeping, held_within core block (λ x. keeps x.state ≡ true) (λ h. cc) keeping)

  -- a core that may store owns the block
  owner_in : (core block : ℕ) (within : IsWithin s core block) → MayStore s.protocol (state_of s core block) → owns (g.blocks block within.1).owner core ≡ true
  owner_in core block within writes =
      let (owning, _) = ((ask_rule _ _ _ _ _ (Store 0) ((g.blocks block within.1).states core within.0)).1 (record { action = Hit; next = writes.0 }) writes.1).1.1 refl in
      owning

  -- a core may load only where memory's state lets one
  pub memory_lets_load : (core block : ℕ) → MayLoad s.protocol (state_of s core block) → lets_load (picture_of s block).memory.state ≡ true
  memory_lets_load core block reads =
      let (keeping, within) = hit_within core block event.Load reads in
      let good = g.blocks block within.1 in
      elim (cases_Bool (lets_load (picture_of s block).memory.state)) [
        | inl lets ↦ lets
        | inr bars ↦
            let (unowned, blind) = (memory_rule s.protocol _ _ good.claims good.is_claims).1.0 bars in
            let apart : owns good.owner core ≡ false = grind (arith, unowned, good.is_owned) in
            absurd (both_ways _ (of_open s.protocol good.claims.shared (picture_of s block).transaction _ blind core _ _ (good.states core within.0) apart) keeping)
      ]

  -- and store only where it lets one
  pub memory_lets_store : (core block : ℕ) → MayStore s.protocol (state_of s core block) → lets_store (picture_of s block).memory.state ≡ true
  memory_lets_store core block writes =
      let (_, within) = hit_within core block event.Store writes in
      let good = g.blocks block within.1 in
      let owning = owner_is good.owner core (owner_in core block within writes) in
      grind (arith, (memory_rule s.protocol _ _ good.claims good.is_claims).0, good.is_owned, owning)

  -- where it lets one store, and nothing is open, a core may
  pub owner_stores : (block : ℕ) → lets_store (picture_of s block).memory.state ≡ true → (picture_of s block).transaction ≡ None → (core : ℕ) × MayStore s.protocol (state_of s core block)
  owner_stores block lets free =
      let within : block < s.shape.blocks = grind (arith, outside block, lets) in
      let good = g.blocks block within in
      let owned : is_some good.owner ≡ true = good.is_owned ∙ (memory_rule s.protocol _ _ good.claims good.is_claims).1.1.0 lets (rw free refl) in
      let (o, is) = some_of good.owner owned in
      let (row, is_row, hit) = (fit_rule _ _ _ _ _ (good.states o (good.owner_in o is))).0 (grind (arith, is)) in
      (o, (row.next, grind (arith, is_row, hit)))

  -- an open transaction is of a block within the shape
  pub opened_within : (block : ℕ) (o : Open) → (picture_of s block).transaction ≡ Some o → block < s.shape.blocks
  opened_within block o is = grind (arith, outside block, is)

  pub sender_within : (block : ℕ) (o : Open) → (picture_of s block).transaction ≡ Some o → ForSome o.from (λ sender. sender < s.shape.cores)
  sender_within block o is = (g.blocks block (opened_within block o is)).sender_in o is

  -- the requestor of an open transaction is there, and awaits its data, or keeps nothing where it is a PutM
  pub requestor_fits : (core block : ℕ) (q : Request) → HasOpen s core block q
      → IsWithin s core block × ((is_put_m q ≡ false → awaited_request (state_of s core block) ≡ Some q) ×
      (is_put_m q ≡ true → keeps (state_of s core block) ≡ false))
  requestor_fits core block q (o, is) =
      let within = opened_within block o is.0 in
      let good = g.blocks block within in
      let there : core < s.shape.cores = rw (← is.1) (good.requestor_in o is.0) in
      ((there, within), (fit_rule _ _ _ _ _ (good.states core there)).1.1.0 q (rw (is.0, is.1, eq-eqb core core refl, is.2) refl))

  -- a core waits for data exactly where the block's open transaction is its GetS or GetM
  pub data_awaited : IsWellKept s → (core block : ℕ) (q : Request) → (awaited_request (state_of s core block) ≡ Some q) ↔ (HasOpen s core block q × (q ≢ PutM))
  data_awaited kept core block q = (
    λ waits. (kept.awaits core block q waits, λ put. awaited-get (state_of s core block) (rw put at waits)),
    λ open_get. (requestor_fits core block q open_get.0).1.0 (grind (arith, open_get.1)),
  )

  -- a core that waits is within the shape, and so is its block
  pub waits_within : (core block : ℕ) (q : Request) → Waits s core block q → IsWithin s core block
  waits_within core block q = held_within core block (λ x. waiting_request x.state ≡ Some q) (λ h. cc)

  -- an Order of a request that can be ordered finds each core's row and exactly one sender, and is a line of the table of Orders
  order_possible : (core block : ℕ) (q : Request) → CanOrder s core block q
      → ((k : ℕ) → k < length (picture_of s block).caches → HasRow s.protocol (state_of s k block) (seen_by k core q)) × FollowsSenderTable s.protocol (picture_of s block) core q
  order_possible core block q ready =
      let before : Picture = picture_of s block in
      let within = waits_within core block q ready.0 in
      let long = g.shaped.row block within.1 in
      let good : BlockInvariant s.protocol (length before.caches) (flat_words s.log block) before = rw long (g.blocks block within.1) in
      let l = look good ready.1 core q (rw long within.0) ready.0 in
      let below = if_some (meant l) (λ core. core < length before.caches) (meant_in l) in
      let itself = (it_is (meant l) (meant l)).1 refl in
      let line : FollowsSenderTable s.protocol before core q = record {
        from = meant l;
        payload = sent l;
        next = l.memory.next;
        sent = record { sends = sends_if_meant l (meant l) below itself; alone = λ another payload does. (sender_told l another payload does).0 };
        ordered = (l.memory, l.is_memory, refl);
        is_line = led_line s.protocol before core q (meant l) (sent l) l.memory.next ((sends l (meant l) below).1 itself).0;
      } in
      (λ d d_in. let (row, is_row, _, _, _) = each_row l d d_in in (row, is_row), line)

  -- an Order of any request that waits on a free block has exactly one sender, and is a line of the table
  pub orders_follow_sender_table : OrdersFollowSenderTable s.protocol s
  orders_follow_sender_table core block q ready = (order_possible core block q ready).1

  respond_rows : (block : ℕ) (o : Open) (opened : (picture_of s block).transaction ≡ Some o) → Closing (g.blocks block (opened_within block o opened)) o
  respond_rows block o opened = close (g.blocks block (opened_within block o opened)) o opened

  finds_cache : (step : Step) (core block : ℕ) (event : Option CacheEvent) → ConsultsCache s step core block event → IsSomeAnd event (HasRow s.protocol (state_of s core block))
  finds_cache (Ask asker on word asking) core block event looks =
      rw looks.3 (each_line core block (λ x. (¬ ((asking ≡ Evict) × (x.state ≡ I))) → HasRow s.protocol x.state (asked asking))
      (λ within busy.
      let found = (ask_rule _ _ _ _ _ asking ((g.blocks block within.1).states core within.0)).0 in
      let (row, is_row, _) = found (grind (arith, busy, idle_evict (state_of s core block) asking)) in
      (row, is_row))
      (nothing_asked s.protocol asking) looks.2)
  finds_cache (Order requestor) core block event (q, (ready, is)) =
      rw is (each_line core block (λ x. (core ≡ requestor → waiting_request x.state ≡ Some q) → HasRow s.protocol x.state (seen_by core requestor q))
      (λ within waits. (order_possible requestor block q ready).0 core (rw (g.shaped.row block within.1) within.0))
      (λ waits. rw (ne_eqb core requestor (λ same. none-some q (waits same))) (nothing_seen s.protocol q))
      (λ same. rw same ready.0))
  finds_cache (Respond on) core block event (closing, looks) =
      rw (looks.4, looks.2) (has_row (row_for s.protocol (state_of s closing.core block)) refl (arrival closing.payload)
      (let (row, is_row, _) = answered (respond_rows block closing looks.1) (grind (arith, looks.3)) in (row, is_row)))

  finds_memory : (step : Step) (block : ℕ) (event : Option MemEvent) → ConsultsMemory s step block event → IsSomeAnd event (HasMemRow s.protocol (picture_of s block).memory.state)
  finds_memory (Ask asker on word asking) block event looks = absurd looks
  finds_memory (Order requestor) block event looks =
      let x = orders_follow_sender_table requestor block looks.0 looks.1.0 in
      rw looks.1.1 (x.ordered.0, x.ordered.1)
  finds_memory (Respond on) block event (closing, looks) =
      rw looks.3 (has_row (memory_row_for s.protocol (picture_of s block).memory.state) refl (arrival_at_memory closing.payload) (let found = respond_rows block closing looks.1 in (found.memory, rw looks.2 at found.is_memory)))

  -- no step meets an impossible cell
  pub finds_rows : (step : Step) → FindsRows s step
  finds_rows step = record { cache = finds_cache step; memory = finds_memory step }
