-- What every machine keeps makes it safe, and its steps keep it.
use Rattle.snoop_model.proofs.Common.{ap, arith, arrival_at_memory, Ask, asked, both_ways, CacheEvent, CacheState, Cell, E, EiA, Evict, Extent, flat, flat_words, Goes, held_by, Hit, I, IfSome, inl, inr, Invariant, is_clean, is_some, IsOpenByTable, IsProper, IsSenderLine, IsSome, IsWellKept, keeps, List, MemCell, MoveOn, None, Option, option_map, Order, Orders, Picture, picture_of, Protocol, PutM, refl, Refused, Reply, Request, reset, Respond, Result, RunBy, same_Some, Situation, Stall, state_of, Step, Store, sym, takes_payload, true, with_line, with_picture, word_at, ℕ, ◌<◌, ◌∙◌, ◌≡◌, ◌≤◌, ◌⊎◌, IsWithin}
use Rattle.snoop_model.specs.{Coherent.{IsCoherent, IsCoherentRun}, Invariant.MachineKeeps.{AreOnSenderLines, MachineKeeps}, Runs.{Run.EveryRun, Safe.{IsSafe, RowsAreFound}}}
use Rattle.snoop_model.proofs.Invariant.{Coherence.{data_awaited, each_line, finds_rows, held_within, hit_within, memory_lets_load, memory_lets_store, nobody_owns, opened_within, outside, orders_follow_sender_table, owner_stores, requestor_fits, sender_within}, Runs.{goes_kept, idle_line, move_keeps, nothing_proper, reset_invariant, reset_open, word_flat}}
use Rattle.snoop_model.proofs.{Lists.if_some, Once.run_asked_once, Turns.busy_cases}
use Rattle.snoop_model.proofs.{OneBlock.{AfterMoves.{ask_line, each_picture, in_pictures, respond_here}, Facts.owned_alone}, Queues.{on_kept, starts_well}}
use Rattle.snoop_model.proofs.{Runs.{Along.kept_along, GoOn.moves_on, Replies.{run_stays, run_tells}}, Steps.order_made}
use Rattle.snoop_model.proofs.Tables.{OrderTests.{sends_is, settled_so}, Rows.{action_rule, ask_rule, claims_rule, fit_rule, IsProper-drop, memory_rule, no_row}}
use Rattle.snoop_rules.specs.declared.names.CacheEvent.TheVariants as event

-- each open transaction is on a line
abbrev OnLine : Protocol → Picture → Type 0
OnLine p picture = IfSome picture.transaction (λ o. (before : Picture) × IsSenderLine p before o.core o.request o.from o.payload picture.memory.state)

module _ (s : Situation) (g : Invariant s) where
  -- each line keeps and awaits what its state says
  pub all_proper : (core block : ℕ) → IsProper (held_by (picture_of s block) core)
  all_proper core block = each_line s g core block IsProper (λ within. (g.blocks block within.1).proper core within.0) nothing_proper

  -- a word that a core keeps has its value in flat memory
  pub kept_is_flat : s.shape.words ≤ 64 → (core block word : ℕ) → (found : Option ℕ) → IfSome found (λ _. (core < s.shape.cores) × (block < s.shape.blocks) × (word < s.shape.words))
      → (core < s.shape.cores → block < s.shape.blocks → word < s.shape.words → found ≡ option_map (λ ws. word_at ws word) (held_by (picture_of s block) core).kept)
      → (core < s.shape.cores → block < s.shape.blocks → word < s.shape.words → is_some found ≡ keeps (state_of s core block)) → IfSome found (λ value. value ≡ flat s.log block word)
  kept_is_flat few core block word found within inside readable =
      let kept = λ (there : IsWithin s core block). (g.blocks block there.1).kept core there.0 in
      grind (arith, few, within, inside, readable, kept, word_flat s.log block word)

  -- of a clean copy memory has the words
  pub clean_in_memory : (core block : ℕ) → (state_of s core block ≡ E) ⊎ (state_of s core block ≡ EiA) → (picture_of s block).memory.value ≡ flat_words s.log block
  unfolding is_clean
  clean_in_memory core block clean =
      let is : is_clean (state_of s core block) ≡ true = elim clean [ inl e ↦ rw e refl | inr e ↦ rw e refl ] in
      let within = held_within s g core block (λ x. is_clean x.state ≡ true) (λ h. cc) is in
      (g.blocks block within.1).clean core within.0 is

  -- an Order is a line of the table
  pub order_is_line : (core block : ℕ) (q : Request) (new : Situation) (made : Orders s core block q new) → IsSenderLine s.protocol (picture_of s block) core q made.from made.payload made.next.memory.state
  order_is_line core block q new o =
      let f = orders_follow_sender_table s g core block q o.ready in
      let sends = sends_is s.protocol (picture_of s block) core q in
      let alone = o.sent.alone f.from f.payload f.sent.sends in
      grind (arith, f.is_line, alone, sends f.from f.payload f.sent.sends, sends o.from o.payload o.sent.sends, f.ordered, o.memory)

  on_lines : AreOnSenderLines s → (block : ℕ) → block < s.shape.blocks → (next : Picture) → OnLine s.protocol next → AreOnSenderLines (with_picture s block next)
  on_lines lines block within next here =
      each_picture s block next s.queues s.log (λ b. OnLine s.protocol) (in_pictures s block g.shaped within) (λ b apart. lines b) here

-- a move keeps the lines: an Ask changes neither memory nor a transaction
pub move_on_lines : (block : ℕ) (old : Situation) (step : Step) (answer : Reply) (new : Situation) → Invariant old → AreOnSenderLines old → MoveOn block old step answer new → AreOnSenderLines new
move_on_lines block old (Ask core on word asking) answer new g lines m = elim m.moves [
  | inl absent ↦ rw absent.3 lines
  | inr a ↦ rw a.after (on_lines old g lines block m.within.1 (with_line (picture_of old block) core a.held) (lines block))
]
move_on_lines block old (Order core) answer new g lines m =
    let o = m.orders in
    rw o.after (on_lines old g lines block m.within.1 o.next
    (rw o.opened (picture_of old block, order_is_line old g core block m.request new o)))
move_on_lines block old (Respond on) answer new g lines m =
    rw m.responds.after (on_lines old g lines block m.within m.responds.next (rw m.responds.closed tt))

-- the invariant, open transactions on lines of the table, and queues and transactions as the states say make a situation coherent
pub is_coherent : (s : Situation) → Invariant s → AreOnSenderLines s → IsWellKept s → IsCoherent s
is_coherent s g on_lines well_kept = record {
  shaped = g.shaped;
  one_writer = λ block core other writes apart.
      let (_, within) = hit_within s g core block event.Store writes in
      let good = g.blocks block within.1 in
      let (owning, _) = ((ask_rule _ _ _ _ _ (Store 0) (good.states core within.0)).1 (record { action = Hit; next = writes.0 }) writes.1).1.1 refl in
      let blind = λ (e : CacheEvent) (hits : (n : CacheState) × Cell s.protocol (state_of s other block) e Hit n).
      let (keeping, there) = hit_within s g other block e hits in
      both_ways _ ((owned_alone good core owning).2 other there.0 apart) keeping in
      (blind event.Load, blind event.Store);
  readers = memory_lets_load s g;
  writers = memory_lets_store s g;
  owned = owner_stores s g;
  at_rest = λ block free waits. let good = g.blocks block (grind (arith, outside s g block, waits)) in both_ways _ (rw free refl) ((memory_rule s.protocol _ _ good.claims good.is_claims).1.1.1 waits);
  legal = g.legal;
  logged = g.logged;
  kept = λ core block is.
      let within = held_within s g core block (λ x. IsSome x.kept) (λ h. cc) is in
      let good = g.blocks block within.1 in
      let (row, is_row, hit) = (fit_rule _ _ _ _ _ (good.states core within.0)).1.0 (sym (good.proper core within.0).kept ∙ is) in
      (row.next, grind (arith, is_row, hit));
  current = λ core block reads. let (keeping, within) = hit_within s g core block event.Load reads in (g.blocks block within.1).kept core within.0 keeping;
  carried = λ block within. grind (arith, (g.blocks block within).carried);
  memory = λ block within idle none.
      let it = g.blocks block within in
      it.fresh ((claims_rule s.protocol _ _ it.claims it.is_claims).1 (nobody_owns it idle) (grind (arith, none)));
  clean = clean_in_memory s g;
  opened = λ block. if_some (picture_of s block).transaction _ (λ o is.
      (g.opened block o is, (g.blocks block (opened_within s g block o is)).requestor_in o is, if_some o.from _ (sender_within s g block o is)));
  waiting = λ core block. (all_proper s g core block).waiting;
  awaited = data_awaited s g well_kept;
  queued = well_kept.queued;
  stalls = λ core block word asking state stalled.
      elim (busy_cases (state_of s core block) (action_rule s.protocol (state_of s core block) (asked asking) Stall stalled.2.0 stalled.2.1)) [
        | inl waits ↦ (waits.0, inl waits.1)
        | inr awaits ↦ (awaits.0, inr ((data_awaited s g well_kept core block awaits.0).0 awaits.1))
      ];
  hits = λ core block word asking answer new m. elim m.moves [
    | inl absent ↦ rw (absent.0, absent.1, absent.2) (λ hit. absurd hit, λ may. no_row s.protocol I Evict Hit may.0 refl refl may.1)
    | inr a ↦ (λ hit. (a.row.next, grind (arith, hit, a.is_row, a.taken)), λ may. grind (arith, may, a.is_row, a.taken))
  ];
  gone = λ core block word answer new leaves m. elim m.moves [
    | inl absent ↦ rw absent.3 (idle_line (held_by (picture_of s block) core) (all_proper s g core block) absent.1)
    | inr a ↦
        let proper = IsProper-drop s.protocol (held_by (picture_of s block) core) (asked Evict) a.row.next (all_proper s g core block) in
        let rule = action_rule s.protocol (state_of s core block) (asked Evict) a.row.action a.row.next a.is_row in
        ask_line s core block word Evict answer new g m.within a ∙ grind (arith, leaves, a.taken, a.is_row, proper, idle_line, rule)
  ];
  given_up = λ core block opened. grind (arith, (all_proper s g core block).kept, (requestor_fits s g core block PutM opened).1.1);
  moves = moves_on s g well_kept.queued;
  orders = λ core block q ready. (_, order_made s g core block q ready);
  by_table = order_is_line s g;
  on_table = λ block. if_some (picture_of s block).transaction (IsOpenByTable s block) (λ o is.
      let line = rw is at (on_lines block) in
      record {
        before = line.0;
        on_line = line.1;
        settled = λ answer new m.
            let r = m.responds in
            let there : picture_of new block ≡ r.next = respond_here s block m.closing m.did new g m.within r in
            let settles = rw (same_Some _ _ (sym r.opened ∙ is)) at r.memory.settled in
            let settled = settled_so (takes_payload o.request (picture_of s block).memory.state) s.protocol (arrival_at_memory o.payload) (picture_of s block).memory.state in
            let done = same_Some _ _ (sym ((settled r.memory.act r.next.memory.state).0 settles) ∙ (settled line.1.act line.1.done).0 line.1.settled) in
            rw there (r.closed, ap (λ (row : MemCell). row.next) done);
      });
}

pub is_safe : (s : Situation) → MachineKeeps s → IsSafe s
is_safe s keeps = record {
  coherent = is_coherent s keeps.inductive keeps.on_lines keeps.well_kept;
  finds_rows = finds_rows s keeps.inductive;
  kept_where_readable = λ core block. (all_proper s keeps.inductive core block).kept;
}

-- what is safe is well kept
pub well_kept_in : (s : Situation) → IsSafe s → IsWellKept s
well_kept_in s safe = record {
  shaped = safe.coherent.shaped;
  queued = safe.coherent.queued;
  awaits = λ core block request awaits. ((safe.coherent.awaited core block request).0 awaits).0;
  operations = λ core block access waits. rw (← safe.coherent.waiting core block, waits) refl;
}

pub reset_keeps : (protocol : Protocol) (shape : Extent) → MachineKeeps (reset protocol shape)
reset_keeps protocol shape = record {
  inductive = reset_invariant protocol shape;
  on_lines = λ block. rw (reset_open protocol shape block) tt;
  well_kept = (starts_well protocol shape (λ core. None)).0;
}

pub move_keeps_all : (block : ℕ) (old new : Situation) (step : Step) (answer : Reply) → MachineKeeps old
    → MoveOn block old step answer new → MachineKeeps new
move_keeps_all block old new step answer keeps move = record {
  inductive = move_keeps block old step answer new keeps.inductive move;
  on_lines = move_on_lines block old step answer new keeps.inductive keeps.on_lines move;
  well_kept = on_kept block old new step answer keeps.well_kept move;
}

-- so does a run
pub run_keeps_all : (steps : List Step) (outcomes : List (Result Reply Refused)) (old new : Situation) → MachineKeeps old → RunBy Goes old steps outcomes new
    → MachineKeeps new
run_keeps_all = kept_along Goes MachineKeeps (goes_kept MachineKeeps (λ block s step answer t. move_keeps_all block s t step answer))

pub rows_are_found : RowsAreFound
rows_are_found protocol shape steps outcomes new run =
    finds_rows new (run_keeps_all steps outcomes (reset protocol shape) new (reset_keeps protocol shape) run).inductive

pub every_run_is_coherent : EveryRun IsCoherentRun
every_run_is_coherent protocol shape steps outcomes new run =
    let keeps = run_keeps_all steps outcomes (reset protocol shape) new (reset_keeps protocol shape) run in
    record {
      stays = run_stays steps outcomes (reset protocol shape) new run;
      coherent = is_coherent new keeps.inductive keeps.on_lines keeps.well_kept;
      once = run_asked_once protocol shape steps outcomes new run;
      told = run_tells steps outcomes (reset protocol shape) new (reset_invariant protocol shape) run;
    }
