-- A machine is well kept at reset, and stays so at each kind of move; so a core waits on the blocks in its queue, and on no others.
use Rattle.snoop_model.proofs.Common.{[], Access, after_issue, after_order, arith, ArrivesFor, Ask, asked, awaited_request, CacheAction, CacheState, Cell, Contains, Did, eq-eqb, eqb-true, filter, get_or-set_other, get_or-set_same, get_or_from_slice_get, held_at, held_by, if◌then◌else◌, inl, inr, is_some, IsShaped, IsSome, Issue, IsWellKept, IsWithin, Item, KeepsWell, length, Line, List, missed_request, MoveOn, ne_eqb, None, none-some, not, nothing_held, Op, Open, Option, option_to_list, Order, Picture, picture_of, Protocol, queue_of, queues_after, refl, Reply, Request, Respond, Responds, same_Some, Situation, slice_get, slice_get-get_or, slice_get_within, Some, StandsFirst, StartsWell, state_of, Step, sym, Takes, TakesRows, waiting_request, Waits, WaitsOnNone, with_line, ℕ, ◌++◌, ◌<◌, ◌==◌, ◌∙◌, ◌∷◌, ◌≡◌, ◌≢◌}
use Rattle.snoop_model.specs.Pictures.InQueue.{IsInQueue}
use Rattle.snoop_model.proofs.Invariant.Runs.{reset_line, reset_open, reset_shaped}
use Rattle.snoop_model.proofs.Lists.{counted_in, each_set, either_way, in_counted, of_choice, one_if, replicated, same_set, times, times_left, times_push}
use Rattle.snoop_model.proofs.OneBlock.AfterMoves.{by_request, changed, each_picture, each_taken, filled_or_same, in_pictures, still_shaped, still_waiting}
use Rattle.snoop_model.proofs.Tables.{OrderTests.{awaited-get, data_rule}, Rows.{action_rule, awaited-asked, fill-waits, issue-waits, order_rule, some_of}}

-- a core's queue, with the block this often in it, and its line are as the line's state and the block's open transaction say: the block is queued where the core waits,
-- data that it awaits are of its own, and an operation waits only where one has missed
record IsKeptAt (often : ℕ) (now : Option Open) (block core : ℕ) (line : Line) : Type 0 where
  queued : often ≡ one_if (is_some (waiting_request line.state))
  awaits : (q : Request) → awaited_request line.state ≡ Some q → (o : Open) × ((now ≡ Some o) × (o.core ≡ core) × (o.request ≡ q))
  operations : (access : Access) → line.waiting ≡ Some access → IsSome (missed_request line.state)

kept_at : (s : Situation) → IsWellKept s → (block core : ℕ)
    → IsKeptAt (times block (queue_of s.queues core)) (picture_of s block).transaction block core (held_by (picture_of s block) core)
kept_at s kept block core = record { queued = kept.queued core block; awaits = kept.awaits core block; operations = kept.operations core block }

-- what is to be shown of a move
record KeepsOn (s : Situation) (block : ℕ) (next : Picture) (queues : List (List ℕ)) : Type 0 where
  here : (core : ℕ) → IsKeptAt (times block (queue_of queues core)) next.transaction block core (held_by next core)
  elsewhere : (core b : ℕ) → b ≢ block → times b (queue_of queues core) ≡ times b (queue_of s.queues core)

well_after : (s t : Situation) → IsWellKept s → (block : ℕ) (next : Picture) (queues : List (List ℕ)) (log : List Item)
    → t ≡ changed s block next queues log → IsShaped t
    → block < s.shape.blocks → KeepsOn s block next queues → IsWellKept t
well_after s t kept block next queues log after shaped within k =
    let each = λ (core : ℕ). each_picture s block next queues log (λ b x. IsKeptAt (times b (queue_of queues core)) x.transaction b core (held_by x core))
    (in_pictures s block kept.shaped within)
    (λ b apart. rw (k.elsewhere core b apart) (kept_at s kept b core)) (k.here core) in
    rw after (record {
      shaped = rw after at shaped;
      queued = λ core b. (each core b).queued;
      awaits = λ core b. (each core b).awaits;
      operations = λ core b. (each core b).operations;
    })

-- the line that an Ask leaves, by its row
module _ (s : Situation) (kept : IsWellKept s) (core block word : ℕ) (asking : Op) (within : IsWithin s core block) (held : Line) (next : CacheState)
    (answer : Reply) (entry : Option Item) where
  abbrev line : Line
  line = held_by (picture_of s block) core

  -- one line and its core's queue change, and what that line awaits it awaited before
  one_line : (act : CacheAction) (queues : List (List ℕ)) → Cell s.protocol line.state (asked asking) act next → held.state ≡ next
      → times block (queue_of queues core) ≡ one_if (is_some (waiting_request next)) → ((k : ℕ) → k ≢ core → queue_of queues k ≡ queue_of s.queues k)
      → ((k b : ℕ) → b ≢ block → times b (queue_of queues k) ≡ times b (queue_of s.queues k)) → ((access : Access) → held.waiting ≡ Some access → IsSome (missed_request next))
      → KeepsOn s block (with_line (picture_of s block) core held) queues
  one_line act queues row is own others elsewhere missed = record {
    here = each_set (picture_of s block).caches core held nothing_held (λ k. IsKeptAt (times block (queue_of queues k)) (picture_of s block).transaction block k)
        (rw (kept.shaped.row block within.1) within.0)
        (record {
          queued = rw is own;
          awaits = rw is (λ q h. kept.awaits core block q (awaited-asked s.protocol line.state asking act next row q h));
          operations = rw is missed;
        })
        (λ k apart. rw (others k apart) (kept_at s kept block k));
    elsewhere = elsewhere;
  }

  kept_taken : (act : CacheAction) → Cell s.protocol line.state (asked asking) act next → Takes act next s.log core block word asking line held answer entry
      → KeepsOn s block (with_line (picture_of s block) core held) (queues_after act s.queues core block)
  kept_taken (Issue request) row taken =
      let (was, is) = issue-waits s.protocol line.state (asked asking) request next row in
      let queue = queue_of s.queues core in
      let own = get_or-set_same s.queues core (queue ++ block ∷ []) [] (rw kept.shaped.queues within.0) in
      one_line (Issue request) (after_issue s.queues core block) row (rw taken.0 refl)
      (rw (is, own, times_push block block queue, eq-eqb block block refl, kept.queued core block, was) refl)
      (λ k apart. get_or-set_other s.queues core k _ [] apart)
      (λ k b apart. same_set (times b) s.queues core _ [] (rw (times_push b block queue, ne_eqb block b (λ e. apart (sym e))) (omega arith)) k)
      (λ access h. grind (arith, taken, h, action_rule s.protocol line.state (asked asking) (Issue request) next row))
  -- else what waits and what has missed are as before
  kept_taken act row taken =
      let rule = action_rule s.protocol line.state (asked asking) act next row in
      one_line act s.queues row (grind (arith, taken)) (grind (arith, taken, rule, kept.queued core block)) (λ k apart. refl) (λ k b apart. refl)
      (λ access h. grind (arith, taken, rule, h, kept.operations core block access))

-- who waits once each core has taken its row: the requestor no longer, each other core as before
module _ (p : Protocol) (core : ℕ) (request : Request) (old new : List Line) (taken : TakesRows p core request old new) where
  row_waits : (k : ℕ) → k < length old → waiting_request (held_at new k).state ≡ (if k == core then None else waiting_request (held_at old k).state)
  row_waits k inside =
      let (row, is_row, moved) = taken.rows k inside in
      rw moved (order_rule p (held_at old k).state k core request row.action row.next is_row).1.1.0

  pub own_waits : core < length old → waiting_request (held_at new core).state ≡ None
  own_waits inside = row_waits core inside ∙ rw (eq-eqb core core refl) refl

  pub others_wait : (k : ℕ) → (k ≡ core → ⊥) → waiting_request (held_at new k).state ≡ waiting_request (held_at old k).state
  others_wait k apart = each_taken taken k (λ x y. waiting_request y.state ≡ waiting_request x.state) (λ inside. row_waits k inside ∙ rw (ne_eqb k core apart) refl) refl

-- a response changes no wait
pub arrives_waits : (closing : Open) (p : Protocol) (log : List Item) (old new : List Line) (did : Option Did) → ArrivesFor closing.request closing p log old new did
    → (k : ℕ) → waiting_request (held_at new k).state ≡ waiting_request (held_at old k).state
arrives_waits closing p log old new did arrives k = elim (by_request closing.request arrives) [
  | inl put ↦ rw put.1 refl
  | inr (_, f) ↦
      (let waits = fill-waits p (held_at old closing.core).state f.fills.event f.fills.row.action f.fills.row.next f.asking.op f.fills.fill f.fills.is_row in
      grind (arith, filled_or_same f k, f.fills.held, waits))
]

-- no core awaits data of the block once a response has come
none_awaits : (s : Situation) (kept : IsWellKept s) (block : ℕ) (closing : Open) (did : Option Did) (t : Situation) (r : Responds s block closing did t)
    → (k : ℕ) (q : Request) → awaited_request (held_by r.next k).state ≡ Some q → ⊥
none_awaits s kept block closing did t r k q h =
    let had = kept.awaits k block q in
    elim (by_request closing.request r.requestor) [
      | inl put ↦ grind (arith, put, h, had, r.opened, awaited-get (state_of s k block))
      | inr (_, f) ↦
          (let ends = (data_rule s.protocol (state_of s closing.core block) closing.payload f.fills.row (rw f.fills.arrives f.fills.is_row)).1 in
          grind (arith, filled_or_same f k, f.fills.held, h, had, r.opened, ends))
    ]

pub on_kept : (block : ℕ) (s t : Situation) (step : Step) (answer : Reply) → IsWellKept s → MoveOn block s step answer t → IsWellKept t
on_kept block s t (Ask core on word asking) answer kept m = elim m.moves [
  | inl absent ↦ rw absent.3 kept
  | inr asks ↦ well_after s t kept block (with_line (picture_of s block) core asks.held) (queues_after asks.row.action s.queues core block)
      (s.log ++ option_to_list asks.entry) asks.after
      (still_shaped block s (Ask core on word asking) answer t kept.shaped m) m.within.1
      (kept_taken s kept core block word asking m.within asks.held asks.row.next answer asks.entry asks.row.action asks.is_row asks.taken)
]
on_kept block s t (Order core) answer kept m =
    let before : Picture = picture_of s block in
    let next : Picture = m.orders.next in
    let taken = m.orders.taken in
    let queued = λ (k : ℕ). each_set s.queues core (filter (λ b. not (b == block)) (queue_of s.queues core)) []
    (λ k queue. times block queue ≡ (if k == core then 0 else times block (queue_of s.queues k))) (rw kept.shaped.queues m.within.0)
    (grind (arith, times_left block block (queue_of s.queues core))) (λ k apart. rw (ne_eqb k core apart) refl) k in
    well_after s t kept block next (after_order s.queues core block) _ m.orders.after
    (still_shaped block s (Order core) answer t kept.shaped m) m.within.1 (record {
      here = λ k. each_taken taken k
          (λ x y. IsKeptAt (times block (queue_of s.queues k)) before.transaction block k x →
          IsKeptAt (times block (queue_of (after_order s.queues core block) k)) next.transaction block k y)
          (λ inside was.
          let (row, is_row, moved) = taken.rows k inside in
          let (_, (missed, (waiting, awaits))) = order_rule s.protocol ((held_by before k).state) k core m.request row.action row.next is_row in
          rw moved (record {
            queued = queued k ∙ rw (was.queued, waiting) (sym (of_choice (λ x. one_if (is_some x)) (k == core) None (waiting_request (held_by before k).state)));
            awaits = λ q h. let (mine, same) = awaits q h in (_, (m.orders.opened, sym (eqb-true k core mine), same_Some _ _ same));
            operations = λ access h. rw (← missed) (was.operations access h);
          }))
          (λ was. record { queued = queued k ∙ rw was.queued (sym (either_way (k == core) 0)); awaits = λ q h. cc; operations = λ access h. cc })
          (kept_at s kept block k);
      elsewhere = λ k b apart. same_set (times b) s.queues core _ [] (times_left b block (queue_of s.queues core) ∙ rw (ne_eqb b block apart) refl) k;
    })
on_kept block s t (Respond on) answer kept m =
    let r = m.responds in
    well_after s t kept block r.next s.queues _ r.after (still_shaped block s (Respond on) answer t kept.shaped m) m.within (record {
      here = λ k. record {
        queued = rw (arrives_waits m.closing s.protocol s.log (picture_of s block).caches r.next.caches m.did r.requestor k) (kept.queued k block);
        awaits = λ q h. absurd (none_awaits s kept block m.closing m.did t r k q h);
        operations = λ access h. let same = still_waiting (by_request m.closing.request r.requestor) k access h in
            rw same (kept.operations k block access (rw same at h));
      };
      elsewhere = λ k b apart. refl;
    })

pub keeps_well : KeepsWell
keeps_well s t step answer kept move = on_kept move.0 s t step answer kept move.1.1

pub starts_well : StartsWell
starts_well protocol shape under_way = (
  record {
    shaped = reset_shaped protocol shape;
    queued = λ k b. rw (replicated {X = List ℕ} shape.cores k [], reset_line protocol shape k b, waiting_request) refl;
    awaits = λ k b q h. absurd (none-some q (rw (reset_line protocol shape k b, awaited_request) at h));
    operations = λ k b access h. absurd (none-some access (rw (reset_line protocol shape k b) at h));
  },
  record {
    waits = λ k. rw (replicated {X = List ℕ} shape.cores k []) (λ i d lt. absurd (omega arith));
    opened = λ b o h. absurd (none-some o (sym (reset_open protocol shape b) ∙ h));
  },
)

-- each core's queue has the blocks on which it waits
abbrev pub AreQueued : Situation → Type 0
AreQueued s = (core block : ℕ) → IsInQueue s core block

module _ (s : Situation) (queued : AreQueued s) (core block : ℕ) where
  pub waits_queued : (request : Request) → Waits s core block request → Contains (queue_of s.queues core) block
  waits_queued request waits = counted_in block (queue_of s.queues core) (grind (arith, waits, queued core block))

  pub queued_waits : Contains (queue_of s.queues core) block → (request : Request) × Waits s core block request
  queued_waits there = some_of _ (grind (arith, queued core block, in_counted block (queue_of s.queues core) there))

-- it waits on the block that stands first, and on none where none does
pub first_waits : (s : Situation) → AreQueued s → (core block : ℕ) → StandsFirst s core block → (request : Request) × Waits s core block request
first_waits s queued core block first =
    queued_waits s queued core block (0, slice_get_within (queue_of s.queues core) 0 block first, get_or_from_slice_get (queue_of s.queues core) 0 block block first)

pub none_waits : (s : Situation) → AreQueued s → (core : ℕ) → slice_get (queue_of s.queues core) 0 ≡ None → WaitsOnNone s core
none_waits s queued core none block request waits =
    none-some _ (sym none ∙ slice_get-get_or (queue_of s.queues core) 0 0 (omega (arith, (waits_queued s queued core block request waits).1)))
