-- All laws of turns that follow the turn rule: what they keep, that they are never refused, what they cost, and when a work is over.
use Rattle.snoop_model.proofs.Common.{[], Access, after_order, All, All-contains, All-filter, All-push, All-weaker, ap, arith, Ask, asked, awaited_request, CacheAction, CacheState, Contains-get_or, FirstMove, has_transaction, held_by, inl, inr, IsServing, Issue, Issued, IsWellKept, Item, Line, NeverRefused, None, none-some, none_from_not_some, not, nothing_there, Op, Open, Option, or_cases, Order, Pays, Picture, picture_of, queue_of, queues_after, refl, Reply, Request, Respond, same_Some, ServesOn, Situation, slice_index_or, Some, Stall, state_of, sym, Takes, true, TurnLaws, waiting_request, Waits, with_line, ℕ, ◌==◌, ◌∙◌, ◌≡◌, ◌⊎◌, List}
use Rattle.snoop_model.specs.Turns.Turn.{turn_of}
use Rattle.snoop_model.proofs.{OneBlock.AfterMoves.changed, Lists.{all_first, count_set, each_still, sum_asked, sum_ordered}, Once.owed_after}
use Rattle.snoop_model.proofs.{Queues.{keeps_well, queued_waits, starts_well, waits_queued}, Tables.Rows.{action_rule, is_busy, some_of}}

-- for one of the two, or the other
pub busy_cases : (s : CacheState) → is_busy s ≡ true → ((request : Request) × (waiting_request s ≡ Some request)) ⊎ ((request : Request) × (awaited_request s ≡ Some request))
busy_cases s busy = elim (or_cases _ _ busy) [ inl waits ↦ inl (some_of _ waits) | inr awaits ↦ inr (some_of _ awaits) ]

pub busy_under_way : (s : Situation) (under_way : ℕ → Option ℕ) → IsServing under_way s → IsWellKept s → (core block : ℕ) → is_busy (state_of s core block) ≡ true → under_way core ≡ Some block
busy_under_way s under_way serving kept core block busy =
    let queued = All-contains (λ b. under_way core ≡ Some b) (queue_of s.queues core) block (serving.waits core) in
    grind (arith, busy_cases (state_of s core block) busy, waits_queued s kept.queued core block, queued, kept.awaits core block, serving.opened block)

never_refused : NeverRefused
never_refused s under_way core block word asking begun step serving kept has_core has_block has_word its is cause refused =
    let first = λ (b : ℕ). all_first (λ x. under_way core ≡ Some x) (queue_of s.queues core) b (serving.waits core) in
    let busy = busy_under_way s under_way serving kept core block in
    grind (arith, is, refused, its, has_core, has_block, has_word, first, busy, action_rule s.protocol (state_of s core block) (asked asking) Stall)

module _ {s : Situation} {under_way : ℕ → Option ℕ} (serving : IsServing under_way s) where
  -- where one block's picture was written, and the queues serve
  served : (block : ℕ) (next : Picture) (queues : List (List ℕ)) (log : List Item) → ((core : ℕ) → All (λ b. under_way core ≡ Some b) (queue_of queues core))
      → ((o : Open) → next.transaction ≡ Some o → under_way o.core ≡ Some block) → IsServing under_way (changed s block next queues log)
  served block next queues log waits its = record {
    waits = waits;
    opened = each_still s.pictures block next nothing_there (λ b x. (o : Open) → x.transaction ≡ Some o → under_way o.core ≡ Some b) serving.opened its;
  }

  -- an Ask, if one that issues is of a core that has the block under way
  asked_serves : (core on word : ℕ) (asking : Op) (answer : Reply) (t : Situation) (m : FirstMove s (Ask core on word asking) answer t)
      → ((request : Request) → answer ≡ Issued request → under_way core ≡ Some m.0) → IsServing under_way t
  asked_serves core on word asking answer t m its = elim m.1.1.moves [
    | inl absent ↦ rw absent.3 serving
    | inr asks ↦ rw asks.after (served m.0 (with_line (picture_of s m.0) core asks.held) (queues_after asks.row.action s.queues core m.0) _
        (queued asks.row.action asks.row.next asks.held asks.entry asks.taken) (serving.opened m.0))
  ]
    where
      queued : (act : CacheAction) (next : CacheState) (held : Line) (entry : Option Item) → Takes act next s.log core m.0 word asking (held_by (picture_of s m.0) core) held answer entry
          → (k : ℕ) → All (λ b. under_way k ≡ Some b) (queue_of (queues_after act s.queues core m.0) k)
      queued (Issue request) next held entry taken = each_still s.queues core _ [] (λ k queue. All (λ b. under_way k ≡ Some b) queue) serving.waits
          (All-push (λ b. under_way core ≡ Some b) (queue_of s.queues core) m.0 (serving.waits core) (its request taken.1))
      queued _ next held entry taken = serving.waits

-- more works may be under way
more_served : {s : Situation} {before after : ℕ → Option ℕ} → IsServing before s → ((core block : ℕ) → before core ≡ Some block → after core ≡ Some block) → IsServing after s
more_served {s} serving extends = record {
  waits = λ k. All-weaker _ _ (extends k) (queue_of s.queues k) (serving.waits k);
  opened = λ block o is. extends o.core block (serving.opened block o is);
}

serves_on : ServesOn
serves_on s t before after (Ask core on word asking) answer serving move extends its =
    asked_serves (more_served serving extends) core on word asking answer t move (λ request is. rw (← move.1.1.on_block) its)
serves_on s t before after (Order core) answer serving move extends its =
    let now = more_served serving extends in
    let orders = move.1.1.orders in
    rw orders.after (served now move.0 orders.next (after_order s.queues core move.0) _
    (each_still s.queues core _ [] (λ k queue. All (λ b. after k ≡ Some b) queue) now.waits
    (All-filter (λ b. not (b == move.0)) (λ b. after core ≡ Some b) (queue_of s.queues core) (now.waits core)))
    (λ o is. rw (ap (λ (x : Open). x.core) (same_Some _ _ (sym is ∙ orders.opened)))
    (all_first (λ b. after core ≡ Some b) (queue_of s.queues core) move.0 (now.waits core) move.1.0)))
serves_on s t before after (Respond on) answer serving move extends its =
    let now = more_served serving extends in
    let responds = move.1.1.responds in
    rw responds.after (served now move.0 responds.next s.queues _ now.waits (λ o is. absurd (none-some o (sym responds.closed ∙ is))))

pays : Pays
pays s t (Ask core on word asking) answer move = elim move.1.1.moves [
  | inl absent ↦ rw absent.3 (omega arith)
  | inr asks ↦
      rw asks.after (omega (arith, sum_asked asks.row.action s.queues core move.0, count_set has_transaction s.pictures move.0 (with_line (picture_of s move.0) core asks.held) nothing_there refl))
]
pays s t (Order core) answer move =
    let orders = move.1.1.orders in
    rw orders.after (grind (arith, sum_ordered s.queues core move.0 move.1.0, count_set has_transaction s.pictures move.0 orders.next nothing_there refl))
pays s t (Respond on) answer move =
    let responds = move.1.1.responds in
    rw responds.after (grind (arith, count_set has_transaction s.pictures move.0 responds.next nothing_there refl, responds.opened, responds.closed))

-- a work whose operation waits has a step left
pub has_step : (s : Situation) (core block word : ℕ) (asking : Op) (wanted : Access) → IsWellKept s → (held_by (picture_of s block) core).waiting ≡ Some wanted → turn_of s core block word asking true ≡ None → ⊥
has_step s core block word asking wanted kept waits none =
    grind (arith, none, kept.operations core block wanted waits, busy_cases (state_of s core block), kept.awaits core block)

pub turn_rule : TurnLaws
turn_rule = record {
  starts_well = starts_well;
  keeps_well = keeps_well;
  never_refused = never_refused;
  serves_on = serves_on;
  ends = λ s before after core block word asking serving kept works none others. record {
    waits = λ k i d lt.
        let w = queued_waits s kept.queued k (slice_index_or (queue_of s.queues k) i d) (Contains-get_or (queue_of s.queues k) i d lt) in
        others k (λ e. grind (arith, none, w.1, e, works, serving.waits k i d lt)) ∙ serving.waits k i d lt;
    opened = λ b o is. others o.core (λ e. grind (arith, none, works, e, is, serving.opened b o is)) ∙ serving.opened b o is;
  };
  comes_to_rest = λ s serving kept. record {
    ordered = λ core block request waits. none-some block (All-contains (λ b. ◌≡◌ {A = Option ℕ} None (Some b)) (queue_of s.queues core) block
        (serving.waits core) (waits_queued s kept.queued core block request waits));
    closed = λ block. none_from_not_some (picture_of s block).transaction (λ o is. none-some block (serving.opened block o is));
    performed = λ core block. none_from_not_some (held_by (picture_of s block) core).waiting
        (λ o is. none-some block (busy_under_way s (λ _. None) serving kept core block (grind (arith, kept.operations core block o is))));
  };
  pays = pays;
  owes = owed_after;
  closed_is_last = λ s core block word asking wanted kept owed none.
      elim owed [ inl waits ↦ absurd (has_step s core block word asking wanted kept waits none) | inr last ↦ last ];
  ends_at_once = λ s t under_way core block word asking answer serving idle kept m other.
      let now = asked_serves serving core block word asking answer t m (λ request is. absurd (other request is)) in
      let queued = λ (r : Request) (w : Waits t core block r).
      All-contains (λ b. under_way core ≡ Some b) (queue_of t.queues core) block (now.waits core) (waits_queued t kept.queued core block r w) in
      grind (arith, idle, queued, now.opened block);
}
