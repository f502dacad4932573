-- Each load and store that a run asks is done once, or waits; so what waited, or was asked, waits or is its core's last operation.
use Rattle.snoop_model.proofs.Common.{[], Access, accesses_in, after_order, answers_of, ap, append-nil, append_assoc, append_cancel_left, arith, as_access, Ask, asked, asked_access, CacheAction, CacheState, came_of, cases_Bool, Cell, cond, cons_option, Contains, Contains-append_cases, Contains-append_left, Contains-append_right, Contains-permutation, Did, did_access, eq-eqb, eqb, eqb-true, Err, Extent, filter, filter-append, filter_map, filter_map-append, FirstMove, IfOk, Goes, held_at, held_by, Hit, IfSome, inl, inr, Invariant, IsLast, IsOwed, IsPermutation, last_of, last_or, IsPermutation-append_comm, IsPermutation-append_left, IsPermutation-append_right, IsPermutation-refl, IsPermutation-sym, IsPermutation-trans, IsProper, Item, last_or-append, length, Line, List, map, map-append, MoveOn, ne_eqb, None, nothing_held, of_core, Ok, Once, OnceMore, Op, operation_of, operations, Option, option_map, option_to_list, Order, Picture, picture_of, Protocol, queues_after, refl, Refused, Reply, reset, Respond, Result, RunBy, same_Some, Situation, slice_set, Some, Step, sym, taken, Takes, waiting_at, with_line, zero, ℕ, ◌&&◌, ◌++◌, ◌<◌, ◌==◌, ◌↔◌, ◌∙◌, ◌∷◌, ◌≡◌, ◌⊎◌, operations-push}
use Rattle.snoop_model.proofs.Invariant.Runs.{goes_kept, move_keeps, refusal_same, reset_invariant, reset_line}
use Rattle.snoop_model.proofs.OneBlock.{AfterMoves.{by_request, changed, each_picture, each_taken, in_pictures}, Facts.{did_in}}
use Rattle.snoop_model.proofs.{Lists.{each_set, either_way}, Runs.Replies.on_stays, Tables.Rows.action_rule}
use Rattle.snoop_history.specs.declared.items.Item.TheVariants as item

-- a core's operations with one item more
pub answers_are : (log : List Item) (entry : Option Item) (core : ℕ) → answers_of (log ++ option_to_list entry) core ≡ answers_of log core ++ of_core core (did_in entry)
answers_are log None core = rw (append-nil log, append-nil (answers_of log core)) refl
answers_are log (Some entry) core = rw operations-push (filter-append (λ did. did.core == core) (operations log) (option_to_list (operation_of entry)))

pub one_or_none : (core : ℕ) (o : Option Did) → (of_core core o ≡ []) ⊎ ((d : Did) × (of_core core o ≡ d ∷ []))
one_or_none core None = inl refl
one_or_none core (Some d) = elim (cases_Bool (d.core == core)) [ inl e ↦ inr (d, rw e refl) | inr e ↦ inl (rw e refl) ]

in_one : (o : Option Access) (wanted : Access) → Contains (option_to_list o) wanted ↔ (o ≡ Some wanted)
in_one None wanted = (λ h. absurd (omega (arith, h.1)), λ is. cc)
in_one (Some x) wanted = (λ h. grind (arith, h), λ is. (zero, omega arith, same_Some x wanted is))

pub cons_one : (o : Option Access) → cons_option o [] ≡ option_to_list o
cons_one o = grind arith

-- what a permutation of two lists has in one of them it has in one of the two others
either_side : (xs ys zs ws : List Access) (wanted : Access) → IsPermutation (xs ++ ys) (zs ++ ws) → Contains xs wanted ⊎ Contains ys wanted → Contains zs wanted ⊎ Contains ws wanted
either_side xs ys zs ws wanted same now = Contains-append_cases zs ws wanted (Contains-permutation _ _ wanted same
    (grind (arith, now, Contains-append_left xs ys wanted, Contains-append_right xs ys wanted)))

-- the operation that a move performs, if any
abbrev pub performed_by : (s t : Situation) (step : Step) (answer : Reply) → FirstMove s step answer t → Option Did
performed_by s t step answer move = did_in (on_stays move.0 s t step answer move.1.1).1.0

module _ (s t : Situation) (step : Step) (answer : Reply) (move : FirstMove s step answer t) (once : OnceMore s (step ∷ []) (Ok answer ∷ []) t) (core block : ℕ) (wanted : Access) where
  -- the core's operations after it
  pub answers_after : answers_of t.log core ≡ answers_of s.log core ++ of_core core (performed_by s t step answer move)
  answers_after =
      let logged = (on_stays move.0 s t step answer move.1.1).1 in
      ap (λ (l : List Item). answers_of l core) logged.1 ∙ answers_are s.log logged.0 core

  -- those of them on the block
  abbrev done_here : List Access
  done_here = map did_access (filter (λ d. d.block == block) (of_core core (performed_by s t step answer move)))

  balance : IsPermutation (waiting_at s core block ++ option_to_list (asked_access core block step)) (done_here ++ waiting_at t core block)
  balance =
      let logged = (on_stays move.0 s t step answer move.1.1).1 in
      rw (append_cancel_left s.log once.since (option_to_list logged.0) (sym once.log ∙ logged.1), answers_are [] logged.0 core, cons_one (asked_access core block step)) at (once.once core block)

  -- an operation that the move performs, or that waits after it, waited before it or is asked by it
  pub waited_or_asked : Contains done_here wanted ⊎ ((held_by (picture_of t block) core).waiting ≡ Some wanted)
      → ((held_by (picture_of s block) core).waiting ≡ Some wanted) ⊎ (asked_access core block step ≡ Some wanted)
  waited_or_asked now =
      let sides = either_side done_here (waiting_at t core block) (waiting_at s core block) (option_to_list (asked_access core block step)) wanted
      (IsPermutation-sym _ _ balance) in
      grind (arith, now, in_one, sides)

  -- what the move performs is then the core's last operation
  is_last : Contains done_here wanted → IsLast t core block wanted
  is_last here =
      let did = performed_by s t step answer move in
      let last : last_of t.log core ≡ last_or (last_of s.log core) (map Some (of_core core did)) = rw (answers_after, map-append, last_or-append) refl in
      grind (arith, here, last, one_or_none core did, eqb-true)

  -- and what waited before it, or is asked by it, is performed by it or waits
  pub owed_after : ((held_by (picture_of s block) core).waiting ≡ Some wanted) ⊎ (asked_access core block step ≡ Some wanted) → IsOwed t core block wanted
  owed_after was =
      let sides = either_side (waiting_at s core block) (option_to_list (asked_access core block step)) done_here (waiting_at t core block) wanted balance in
      let waits = in_one (held_by (picture_of t block) core).waiting wanted in
      grind (arith, was, is_last, in_one (held_by (picture_of s block) core).waiting wanted, in_one (asked_access core block step) wanted, waits, sides)

-- the operation that was done, if any
abbrev done : Option Did → Option Access
done did = option_map did_access did

-- the operation is this core's on this block, if there is one
abbrev IsBy : ℕ → ℕ → Option Did → Type 0
IsBy core block did = IfSome did (λ d. (d.core ≡ core) × (d.block ≡ block))

-- what an item has of a core and block: its operation, if it is by this core on this block
accesses_one : (core block c b : ℕ) (did : Option Did) → IsBy c b did
    → map did_access (filter (λ d. d.block == block) (of_core core did)) ≡ option_to_list (cond (eqb b block && eqb c core) (done did) None)
accesses_one core block c b did by = grind (arith, by)

-- an operation waits on, and what is asked is done; or what waited is done, and what is asked begins to wait
abbrev Evens : Option Access → Option Access → Option Access → Option Access → Type 0
Evens waited asked does waits = ((waits ≡ waited) × (does ≡ asked)) ⊎ ((does ≡ waited) × (waits ≡ asked))

-- then what waited and what is asked is what is done and what waits
even : (waited asked does waits : Option Access) → Evens waited asked does waits
    → IsPermutation (option_to_list waited ++ option_to_list asked) (option_to_list does ++ option_to_list waits)
even waited asked does waits (inl on) = rw (on.0, on.1) (IsPermutation-append_comm (option_to_list waited) (option_to_list asked))
even waited asked does waits (inr now) = rw (now.0, now.1) (IsPermutation-refl (option_to_list waited ++ option_to_list asked))

-- an Ask of one line
module _ (p : Protocol) (next : CacheState) (log : List Item) (core block word : ℕ) (asking : Op) (old new : Line) (answer : Reply) (entry : Option Item) (proper : IsProper old) where
  line_once : (act : CacheAction) → Cell p old.state (asked asking) act next → Takes act next log core block word asking old new answer entry
      → IsBy core block (did_in entry) × Evens old.waiting (as_access word asking) (done (did_in entry)) new.waiting
  line_once Hit row t = grind (arith, t)
  line_once act row t = grind (arith, t, proper.waiting, action_rule p old.state (asked asking) act next row)

module _ (old : Situation) (b c : ℕ) where
  -- the core's operation on the block is done, and so it is in each of its lines, the core's own or not
  abbrev Balances : Option Access → Option Did → List Line → Type 0
  Balances asked did lines =
      IsBy c b did × ((k : ℕ) → Evens (held_by (picture_of old b) k).waiting (cond (eqb c k) asked None) (cond (eqb c k) (done did) None) (held_at lines k).waiting)

  -- so it is where the one line that changes balances
  balances : (held : Line) (asked : Option Access) (did : Option Did) → c < length (picture_of old b).caches
      → IsBy c b did × Evens (held_by (picture_of old b) c).waiting asked (done did) held.waiting → Balances asked did (slice_set (picture_of old b).caches c held)
  balances held asked did inside here =
      let lines = each_set (picture_of old b).caches c held nothing_held
      (λ k line. Evens (held_by (picture_of old b) k).waiting (cond (eqb c k) asked None) (cond (eqb c k) (done did) None) line.waiting) inside
      (rw (eq-eqb c c refl) here.1) (λ k apart. rw (ne_eqb c k (λ e. apart (sym e))) (inl (refl, refl))) in
      (here.0, lines)

  -- a move that asks this, and whose lines balance, does each load and store once
  grown : (next : Picture) (queues : List (List ℕ)) (entry : Option Item) (asked : Option Access) (step : Step) (answer : Reply) → b < length old.pictures
      → ((core block : ℕ) → asked_access core block step ≡ cond (eqb b block && eqb c core) asked None) → Balances asked (did_in entry) next.caches
      → OnceMore old (step ∷ []) (Ok answer ∷ []) (changed old b next queues (old.log ++ option_to_list entry))
  grown next queues entry asked step answer within asks balance = record {
    since = option_to_list entry;
    log = refl;
    once = λ core block. rw (cons_one, asks core block, answers_are [] entry core, accesses_one core block c b (did_in entry) balance.0)
        (even _ _ _ _ (each_picture old b next queues (old.log ++ option_to_list entry)
        (λ x picture. Evens (held_by (picture_of old x) core).waiting (cond (eqb b x && eqb c core) asked None)
        (cond (eqb b x && eqb c core) (done (did_in entry)) None) (held_by picture core).waiting)
        within (λ x apart. rw (ne_eqb b x (λ e. apart (sym e))) (inl (refl, refl))) (rw (eq-eqb b b refl) (balance.1 core)) block));
  }

-- a move does each load and store once
move_once : (b : ℕ) (old : Situation) (step : Step) (answer : Reply) (new : Situation) → Invariant old → MoveOn b old step answer new → OnceMore old (step ∷ []) (Ok answer ∷ []) new
move_once b old (Ask c on word asking) answer new g m = elim m.moves [
  | inl idle ↦ rw idle.3 (record {
    since = [];
    log = sym (append-nil old.log);
    once = λ core block. rw (idle.0, ← either_way {A = Option Access} (eqb on block && eqb c core) None) (even _ None None _ (inl (refl, refl)));
  })
  | inr a ↦
      (let before : Picture = picture_of old b in
      let once = line_once old.protocol a.row.next old.log c b word asking (held_by before c) a.held answer a.entry ((g.blocks b m.within.1).proper c m.within.0) a.row.action a.is_row a.taken in
      rw (m.on_block, a.after) (grown old b c (with_line before c a.held) (queues_after a.row.action old.queues c b) a.entry (as_access word asking) (Ask c b word asking) answer
      (in_pictures old b g.shaped m.within.1) (λ core block. refl)
      (balances old b c a.held _ (did_in a.entry) (rw (g.shaped.row b m.within.1) m.within.0) once)))
]
move_once b old (Order c) answer new g m =
    let o = m.orders in
    let waiting = λ (k : ℕ). each_taken o.taken k (λ x y. y.waiting ≡ x.waiting)
    (λ inside. rw (o.taken.rows k inside).2 refl) refl in
    rw o.after (grown old b c o.next (after_order old.queues c b) (Some (item.Sent (record { core = c; request = m.request; block = b }))) None (Order c) answer
    (in_pictures old b g.shaped m.within.1) (λ core block. either_way (eqb b block && eqb c core) None) (tt, λ k. inl (waiting k, refl)))
move_once b old (Respond on) answer new g m =
    let r = m.responds in
    let c = m.closing.core in
    let in_row : c < length (picture_of old b).caches = rw (g.shaped.row b m.within) ((g.blocks b m.within).requestor_in m.closing r.opened) in
    let balanced : Balances old b c None m.did r.next.caches = elim (by_request m.closing.request r.requestor) [
      | inl put ↦ rw (put.2, put.1) (tt, λ k. inl (refl, refl))
      | inr (_, f) ↦
          rw f.held (balances old b c f.line None m.did in_row
          (rw f.logged (refl, g.opened b m.closing r.opened), grind (arith, f.fills.held, f.fills.waited, f.logged, f.fills.performed)))
    ] in
    rw r.after (grown old b c r.next old.queues (Some (item.Came (came_of m.closing) m.did)) None (Respond on) answer
    (in_pictures old b g.shaped m.within) (λ core block. either_way (eqb b block && eqb c core) None) balanced)

-- a run, from any situation that keeps the invariant
pub run_once : (steps : List Step) (outcomes : List (Result Reply Refused)) (old new : Situation) → Invariant old → RunBy Goes old steps outcomes new → OnceMore old steps outcomes new
run_once [] [] old new g r = rw r (record { since = []; log = sym (append-nil old.log); once = λ core block. even _ None None _ (inl (refl, refl)) })
run_once (step ∷ steps) (Ok answer ∷ outcomes) old new g r =
    let middle = r.0 in
    let a = move_once r.1.0.0 old step answer middle g r.1.0.1 in
    let b = run_once steps outcomes middle new (goes_kept Invariant move_keeps old step (Ok answer) middle g r.1.0) r.1.1 in
    record {
      since = a.since ++ b.since;
      log = b.log ∙ ap (λ (l : List Item). l ++ b.since) a.log ∙ append_assoc old.log a.since b.since;
      once = λ core block.
          let asks = asked_access core block in
          let more = filter_map asks (taken steps outcomes) in
          let did = accesses_in a.since core block in
          rw (filter_map-append asks (step ∷ []), filter_map-append operation_of, filter-append, filter-append, map-append, append_assoc did, ← append_assoc _ (filter_map asks (step ∷ [])) more)
          (IsPermutation-trans _ _ _ (rw (append_assoc did (waiting_at middle core block) more) at (IsPermutation-append_left more _ _ (a.once core block)))
          (IsPermutation-append_right did _ _ (b.once core block)));
    }
run_once (step ∷ steps) (Err cause ∷ outcomes) old new g r =
    let rest = run_once steps outcomes r.0 new (goes_kept Invariant move_keeps old step (Err cause) r.0 g r.1.0) r.1.1 in
    rw (← refusal_same old step cause r.0 r.1.0) (record { since = rest.since; log = rest.log; once = rest.once })
run_once _ _ old new g r = absurd r

-- the loads and stores of a run from reset: nothing waits there, and the log is empty
pub run_asked_once : (p : Protocol) (shape : Extent) (steps : List Step) (outcomes : List (Result Reply Refused)) (new : Situation) → RunBy Goes (reset p shape) steps outcomes new → Once steps outcomes new
run_asked_once p shape steps outcomes new r core block =
    let all = run_once steps outcomes (reset p shape) new (reset_invariant p shape) r in
    let none : waiting_at (reset p shape) core block ≡ [] = ap (λ (x : Line). option_to_list x.waiting) (reset_line p shape core block) in
    rw (none, ← all.log) at (all.once core block)

-- a step of the machine, from any situation that keeps the invariant
pub step_once : (old new : Situation) (step : Step) (result : Result Reply Refused) → Invariant old → IfOk result (λ reply. FirstMove old step reply new) → IfOk result (λ reply. OnceMore old (step ∷ []) (Ok reply ∷ []) new)
step_once old new step (Ok reply) g taken = run_once (step ∷ []) (Ok reply ∷ []) old new g (new, ((taken.0, taken.1.1), refl))
step_once old new step (Err cause) g taken = tt
