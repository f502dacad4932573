-- The invariant holds at reset, and after each move: flat memory and the log first, then the block, and what waits.
use Rattle.snoop_history.proofs.Legal.{flat-grows, legal-grows}
use Rattle.snoop_model.proofs.Common.{[], Access, after_order, All, All-append, All-cons, All-nil, ap, append-nil, arith, Ask, BlockInvariant, Bool, CacheAction, CacheState, came_of, claims_of, cond, Did, eqb_tells, Err, Extent, false, fill_by_all, first_memory, fits, flat, flat_words, get_or-map-range_with_len, get_or-replicate, get_or-set_other, get_or-set_same, get_or_past, Goes, HasWord, held_by, Hit, I, IfSome, IfSome_then, if◌then◌else◌, in_protocol, inl, inr, Invariant, is_clean, is_owner, is_sharer, is_store_to, IsNext, IsProper, IsShaped, IsWithin, IsWord, Item, keeps, Legal, length, length-map-range_with_len, length-replicate, length-set, Line, List, MoveOn, next_did, None, none-some, not, nothing_held, nothing_there, Ok, Op, Open, operation_of, operations, operations-push, Option, option_map_or, option_to_list, Order, Picture, picture_of, Protocol, queues_after, refl, Refused, replicate, Reply, reset, Respond, Result, same, same_Some, Situation, slice_set, Some, Step, sym, Takes, true, untouched, wait_fits, with_line, word_at, ℕ, ◌&&◌, ◌++◌, ◌<◌, ◌==◌, ◌∙◌, ◌∷◌, ◌≡◌, ◌≢◌}
use Rattle.snoop_model.proofs.Lists.{each_set, replicated}
use Rattle.snoop_model.proofs.OneBlock.{AfterMoves.{by_request, changed, each_picture, each_taken, in_pictures, still_shaped, still_waiting}, AskStep.ask_keeps, Facts.{did_in, flat_after, IsLawful}, OrderStep.order_keeps, RespondStep.respond_keeps}
use Rattle.snoop_history.specs.declared.items.Item.TheVariants as item
use Rattle.snoop_trace.specs.declared.protocol.Protocol.TheVariants as protocol

-- a word of a block in flat memory
pub word_flat : (log : List Item) (block word : ℕ) → word < 64 → word_at (flat_words log block) word ≡ flat log block word
word_flat log block word h = get_or-map-range_with_len (flat log block) 0 64 word word 0 h (omega arith)

-- the words of block b after an operation, if there is one
abbrev flat_on : ℕ → List ℕ → Option Did → List ℕ
flat_on b ws did = option_map_or (λ d. cond (not d.load && d.block == b) (slice_set ws d.word d.value) ws) did ws

-- after a move they are those after its operation
flat_moved : (log : List Item) (entry : Option Item) (b : ℕ) → flat_words (log ++ option_to_list entry) b ≡ flat_on b (flat_words log b) (did_in entry)
flat_moved log None b = rw append-nil refl
flat_moved log (Some entry) b = sym (fill_by_all (flat (log ++ entry ∷ []) b) (flat_on b (flat_words log b) (operation_of entry)) 64 0 (long (operation_of entry))
    (λ k h. each (operation_of entry) k h ∙ sym (flat-grows log entry b k)))
  where
    long : (did : Option Did) → length (flat_on b (flat_words log b) did) ≡ 64
    long None = length-map-range_with_len (flat log b) 0 64
    long (Some did) = grind (arith, length-set (flat_words log b) did.word did.value, length-map-range_with_len (flat log b) 0 64)

    each : (did : Option Did) (k : ℕ) → k < 64 → word_at (flat_on b (flat_words log b) did) k ≡ option_map_or (λ d. if is_store_to b k d then d.value else flat log b k) did (flat log b k)
    each None k h = word_flat log b k h
    each (Some did) k h = grind (arith, get_or-set_same (flat_words log b) did.word did.value 0, get_or-set_other (flat_words log b) did.word k did.value 0, eqb_tells did.word k, word_flat log b k h, length-map-range_with_len (flat log b) 0 64)

-- an operation on a block leaves the words of each other
flat_split : (ws : List ℕ) (did : Option Did) (block b : ℕ) → IfSome did (λ d. d.block ≡ block) → (b ≢ block → flat_on b ws did ≡ ws) × (flat_on block ws did ≡ flat_after ws did)
flat_split ws did block b on = (λ apart. grind (arith, on, eqb_tells), grind (arith, on, eqb_tells))

-- an operation on a word that there is, as it is performed, may come next, if its load gives the flat value
next_lawful : (log : List Item) (core block word : ℕ) (asking : Op) (value : ℕ) (hit : Bool) → word < 64 → IsLawful (flat_words log block) (Some (next_did log core block word asking value hit)) → IsNext log (next_did log core block word asking value hit)
next_lawful log core block word asking value hit inside lawful = record { numbered = refl; loaded = λ h. lawful h ∙ word_flat log block word inside }

-- the operation's core, block and word are within the shape
abbrev IsLogged : Situation → Did → Type 0
IsLogged s did = IsWithin s did.core did.block × IsWord s.shape did.word

-- a log stays legal and within the shape where the item's operation, if it has one, may come next and is within it
logged_more : (s : Situation) (entry : Option Item) → Invariant s → IfSome (did_in entry) (λ did. IsNext s.log did × IsLogged s did)
    → Legal (s.log ++ option_to_list entry) × All (IsLogged s) (operations (s.log ++ option_to_list entry))
logged_more s None g next = rw append-nil (g.legal, g.logged)
logged_more s (Some entry) g next = (
  legal-grows s.log entry g.legal (IfSome_then (operation_of entry) next (λ did h. h.0)),
  rw operations-push (All-append (IsLogged s) (operations s.log) _ g.logged
      (grind (arith, next, All-nil (IsLogged s), All-cons (IsLogged s)))),
)

-- the item of a move on a block: its operation, if it has one, is on the block, may come next, and is of a core and a word that there are
abbrev IsNextOn : Situation → ℕ → Option Item → Type 0
IsNextOn s block entry = IfSome (did_in entry) (λ did. (did.block ≡ block) × IsNext s.log did × IsLogged s did)

-- what waits in a line is of a word that there is
abbrev AccessWithin : Extent → Line → Type 0
AccessWithin shape line = (access : Access) → line.waiting ≡ Some access → IsWord shape access.word

-- what is to be shown of a move
record Keeps (old : Situation) (block : ℕ) (next : Picture) (entry : Option Item) : Type 0 where
  within : block < old.shape.blocks
  opened : (o : Open) → next.transaction ≡ Some o → o.block ≡ block
  block_after : BlockInvariant old.protocol old.shape.cores (flat_after (flat_words old.log block) (did_in entry)) next
  accesses : (core : ℕ) → AccessWithin old.shape (held_by next core)
  item : IsNextOn old block entry

kept : (old new : Situation) (block : ℕ) (next : Picture) (queues : List (List ℕ)) (entry : Option Item)
    → new ≡ changed old block next queues (old.log ++ option_to_list entry) → IsShaped new
    → Invariant old → Keeps old block next entry → Invariant new
kept old new block next queues entry after shaped g k =
    let log = old.log ++ option_to_list entry in
    let within = in_pictures old block g.shaped k.within in
    let on = IfSome_then (did_in entry) k.item (λ did h. h.0) in
    let more = logged_more old entry g (IfSome_then (did_in entry) k.item (λ did h. (h.1, h.2))) in
    rw after (record {
      shaped = rw after at shaped;
      opened = each_picture old block next queues log (λ b x. (o : Open) → x.transaction ≡ Some o → o.block ≡ b) within (λ b apart. g.opened b) k.opened;
      blocks = each_picture old block next queues log (λ b x. b < old.shape.blocks → (BlockInvariant old.protocol old.shape.cores) (flat_words log b) x) within
          (λ b apart b_in. rw (flat_moved, (flat_split (flat_words old.log b) (did_in entry) block b on).0 apart) (g.blocks b b_in))
          (λ b_in. rw (flat_moved, (flat_split (flat_words old.log block) (did_in entry) block block on).1) k.block_after);
      legal = more.0;
      logged = more.1;
      accesses = λ core. each_picture old block next queues log (λ b x. AccessWithin old.shape (held_by x core)) within (λ b apart. g.accesses core b) (k.accesses core);
    })

-- what waits after an Ask, and its item
module _ (s : Situation) (core block word : ℕ) (asking : Op) (next : CacheState) (old new : Line) (answer : Reply) (entry : Option Item) (there : HasWord s.shape word asking) where
  takes_so : (a : CacheAction) → Takes a next s.log core block word asking old new answer entry → AccessWithin s.shape old → IsWithin s core block → IsLawful (flat_words s.log block) (did_in entry)
      → AccessWithin s.shape new × IsNextOn s block entry
  takes_so Hit t was within lawful =
      let has : IsWord s.shape word = grind (arith, there, t.1.0.performed) in
      (rw t.1.0.held was, rw t.1.2 (refl, next_lawful s.log core block word asking t.0 true has.1 (rw t.1.2 at lawful), (within, has)))
  takes_so a t was within lawful = (λ access waits. grind (arith, t, waits, was access, there), grind (arith, t))

-- a move keeps the invariant
pub move_keeps : (block : ℕ) (old : Situation) (step : Step) (answer : Reply) (new : Situation) → Invariant old → MoveOn block old step answer new → Invariant new
move_keeps block old (Ask core on word asking) answer new g m = elim m.moves [
  | inl idle ↦ rw idle.3 g
  | inr a ↦
      (let shaped = still_shaped block old (Ask core on word asking) answer new g.shaped m in
      let before : Picture = picture_of old block in
      let act = a.row.action in
      let in_row : core < length before.caches = rw (g.shaped.row block m.within.1) m.within.0 in
      let k = ask_keeps old core block word asking answer new a old.shape.cores (flat_words old.log block) (g.blocks block m.within.1) m.within.0 in_row in
      let so = takes_so old core block word asking a.row.next (held_by before core) a.held answer a.entry m.has_word act a.taken (g.accesses core block) m.within k.1 in
      kept old new block (with_line before core a.held) (queues_after act old.queues core block) a.entry a.after shaped g (record {
        within = m.within.1;
        opened = g.opened block;
        block_after = k.0;
        item = so.1;
        accesses = each_set before.caches core a.held nothing_held (λ c. AccessWithin old.shape) in_row so.0
            (λ c apart. g.accesses c block);
      }))
]
move_keeps block old (Order core) answer new g m =
    let o = m.orders in
    let within = m.within in
    let cores : length (picture_of old block).caches ≡ old.shape.cores = g.shaped.row block within.1 in
    kept old new block o.next (after_order old.queues core block) (Some (item.Sent (record { core = core; request = m.request; block = block })))
    o.after (still_shaped block old (Order core) answer new g.shaped m) g (record {
      within = within.1;
      opened = λ t is_open. ap (λ (x : Open). x.block) (same_Some _ _ (sym is_open ∙ o.opened));
      block_after = rw (← cores) (order_keeps old core block m.request new (flat_words old.log block) (rw cores (g.blocks block within.1)) (rw cores within.0) o);
      item = tt;
      accesses = λ c. each_taken o.taken c (λ x y. AccessWithin old.shape x → AccessWithin old.shape y)
          (λ inside was. rw (o.taken.rows c inside).2 was) (λ was. was) (g.accesses c block);
    })
move_keeps block old (Respond on) answer new g m =
    let closing = m.closing in
    let r = m.responds in
    let placed : closing.block ≡ block = g.opened block closing r.opened in
    let its_core = (g.blocks block m.within).requestor_in closing r.opened in
    let k = respond_keeps old block closing m.did new r old.shape.cores (flat_words old.log block) (g.blocks block m.within) (rw (g.shaped.row block m.within) its_core) in
    let logged : IsNextOn old block (Some (item.Came (came_of closing) m.did)) = elim (by_request closing.request r.requestor) [
      | inl put ↦ rw put.2 tt
      | inr (_, f) ↦
          (let has = g.accesses closing.core block f.asking f.fills.waited in
          let lawful = rw (f.logged, ← placed) at k.1 in
          rw f.logged (placed, next_lawful old.log closing.core closing.block f.asking.word f.asking.op f.value false has.1 lawful, ((its_core, rw placed m.within), has)))
    ] in
    kept old new block r.next old.queues (Some (item.Came (came_of closing) m.did))
    r.after (still_shaped block old (Respond on) answer new g.shaped m) g (record {
      within = m.within;
      opened = λ t is_open. absurd (none-some t (sym r.closed ∙ is_open));
      block_after = k.0;
      item = logged;
      accesses = λ c access waits. let same = still_waiting (by_request closing.request r.requestor) c access waits in g.accesses c block access (rw (← same) waits);
    })

pub nothing_proper : IsProper nothing_held
nothing_proper = record { kept = refl; waiting = refl }

-- a line in I holds nothing
pub idle_line : (line : Line) → IsProper line → line.state ≡ I → line ≡ nothing_held
idle_line line proper idle = grind (arith, proper.kept, proper.waiting, idle)

-- where the block's value is at reset: with memory, and with each sharer under MSI
first_claims : (p : Protocol) → (shared : Bool)
    × ((claims_of p (first_memory p) None ≡ Some (record { owned = false; shared = shared; fresh = true })) × (fits p shared false None I ≡ true))
unfolding claims_of fits is_owner is_sharer is_clean wait_fits in_protocol same
first_claims protocol.Msi = (true, (refl, refl))
first_claims protocol.Mesi = (false, (refl, refl))

reset_picture : (p : Protocol) (shape : Extent) (block : ℕ) → block < shape.blocks → picture_of (reset p shape) block ≡ untouched p shape.cores
reset_picture p shape block within = get_or-replicate shape.blocks block (untouched p shape.cores) nothing_there within

-- what holds of an untouched block, and of one outside the shape, holds of each at reset
each_reset : (p : Protocol) (shape : Extent) (P : Picture → Type 0) → P (untouched p shape.cores) → P nothing_there → (block : ℕ) → P (picture_of (reset p shape) block)
each_reset p shape P here outside block =
    let blocks = replicate shape.blocks (untouched p shape.cores) in
    grind (arith, here, outside, reset_picture p shape block, get_or_past blocks block nothing_there, length-replicate shape.blocks (untouched p shape.cores))

pub reset_open : (p : Protocol) (shape : Extent) (block : ℕ) → (picture_of (reset p shape) block).transaction ≡ None
reset_open p shape = each_reset p shape (λ x. x.transaction ≡ None) refl refl

-- each line at reset
pub reset_line : (p : Protocol) (shape : Extent) (core block : ℕ) → held_by (picture_of (reset p shape) block) core ≡ nothing_held
reset_line p shape core = each_reset p shape (λ x. held_by x core ≡ nothing_held) (replicated shape.cores core nothing_held) (get_or_past [] core nothing_held (omega arith))

pub reset_shaped : (p : Protocol) (shape : Extent) → IsShaped (reset p shape)
reset_shaped p shape = record {
  pictures = length-replicate shape.blocks (untouched p shape.cores);
  row = λ b within. rw (reset_picture p shape b within) (length-replicate shape.cores nothing_held);
  queues = length-replicate shape.cores [];
}

pub reset_invariant : (p : Protocol) (shape : Extent) → Invariant (reset p shape)
reset_invariant p shape = record {
  shaped = reset_shaped p shape;
  opened = λ b o is_open. (let none = reset_open p shape b in cc);
  blocks = λ b b_in.
      let claims = first_claims p in
      rw (reset_picture p shape b b_in) (record {
        claims = record { owned = false; shared = claims.0; fresh = true };
        is_claims = claims.1.0;
        owner = None;
        owner_in = λ o e. cc;
        is_owned = refl;
        states = λ d d_in. rw (replicated shape.cores d nothing_held) claims.1.1;
        kept = λ d d_in h. (let e = rw (replicated shape.cores d nothing_held) at h in cc);
        clean = λ d d_in h. refl;
        fresh = λ h. refl;
        carried = λ o e h. cc;
        requestor_in = λ o e. cc;
        sender_in = λ o e. cc;
        proper = λ d d_in. rw (replicated shape.cores d nothing_held) nothing_proper;
      });
  accesses = λ core b access waits. absurd (none-some access (rw (reset_line p shape core b) at waits));
  legal = λ k entry h. cc;
  logged = All-nil (λ did. IsWithin (reset p shape) did.core did.block × IsWord shape did.word);
}

pub refusal_same : (old : Situation) (step : Step) (cause : Refused) (new : Situation) → Goes old step (Err cause) new → new ≡ old
refusal_same old step cause new r = grind (arith, r)

-- what each move keeps, each step keeps
pub goes_kept : (Q : Situation → Type 0) → ((block : ℕ) (s : Situation) (step : Step) (answer : Reply) (t : Situation) → Q s → MoveOn block s step answer t → Q t)
    → (old : Situation) (step : Step) (outcome : Result Reply Refused) (new : Situation) → Q old → Goes old step outcome new → Q new
goes_kept Q keeps old step (Ok answer) new holds m = keeps m.0 old step answer new holds m.1
goes_kept Q keeps old step (Err cause) new holds r = rw (refusal_same old step cause new r) holds
