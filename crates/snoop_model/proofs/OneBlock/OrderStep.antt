-- An Order finds all its rows and one sender, and keeps the invariant.
use Rattle.snoop_model.proofs.Common.{ap, arith, at_memory, BlockInvariant, Bool, CacheCell, carries_value, cases_eq, cell_of, Claims, claims_of, cond, cond_both, cond_some, eq-eqb, eqb, false, fits, held_by, inl, inr, is_put_m, is_some, keeps, length, List, MemCell, memory_cell_of, ne_eqb, None, not, Open, Option, or_cases, Orders, own, own_open, owns, Payload, Picture, picture_of, Protocol, refl, Request, same_Some, seen_by, sender_of, Sends, Situation, Some, sym, true, value_sent, waiting_request, ℕ, ◌<◌, ◌∙◌, ◌≡◌}
use Rattle.snoop_model.proofs.{Lines.{IsBelow, sends_below}, Lists.of_choice, OneBlock.Facts.{carried_line, is_it, it_is, line_of, LineFits, OwnerIn}}
use Rattle.snoop_model.proofs.Tables.{OrderTests.{end_claims, follows_sender_table, memory_sends_row, payload_from, payload_of, sends_is, sends_row, sends_rule, sends_so}, Rows.{carries, IsProper-order}, Tested.Tested}

-- all that an Order looks up of a picture that keeps its invariant
pub record Looked {p : Protocol} {flat : List ℕ} {before : Picture} (good : BlockInvariant p (length before.caches) flat before) (c : ℕ) (q : Request) : Type 0 where
  pub requestor_in : c < length before.caches
  pub calm : before.transaction ≡ None
  pub memory : MemCell
  pub is_memory : memory_cell_of p before.memory.state (at_memory q) ≡ Some memory
  pub row : CacheCell
  pub is_row : cell_of p (held_by before c).state (own q) ≡ Some row
  pub next : Claims
  pub is_next : claims_of p memory.next (Some (q, payload_of row memory)) ≡ Some next
  pub ends : (end_claims p before.memory.state good.claims (held_by before c).state (owns good.owner c) q memory row next).claim

pub look : {p : Protocol} {flat : List ℕ} {before : Picture} (good : BlockInvariant p (length before.caches) flat before) → before.transaction ≡ None
    → (c : ℕ) (q : Request) → c < length before.caches → waiting_request (held_by before c).state ≡ Some q → Looked good c q
look {p} {flat} {before} good calm c q c_in waits =
    let (memory, is_memory, (row, is_row, (next, is_next, ends))) =
    sends_rule p before.memory.state good.claims (rw calm at good.is_claims) _ _ (rw calm at (good.states c c_in)) (grind (arith, good.is_owned)) q waits in
    record { requestor_in = c_in; calm = calm; memory = memory; is_memory = is_memory; row = row; is_row = is_row; next = next; is_next = is_next; ends = ends }

-- what an Order finds of a picture that keeps its invariant
module _ {p : Protocol} {flat : List ℕ} {before : Picture} {good : BlockInvariant p (length before.caches) flat before} {c : ℕ} {q : Request} (l : Looked good c q) where
  abbrev pub sent : Payload
  sent = payload_of l.row l.memory

  -- who is meant to send: the requestor of a PutM, else the owner, else memory
  abbrev pub meant : Option ℕ
  meant = cond (is_put_m q) (Some c) good.owner

  pub meant_in : OwnerIn (length before.caches) meant
  meant_in = cond_both (is_put_m q) (Some c) good.owner (OwnerIn (length before.caches)) (λ is o owned. rw (← same_Some c o owned) l.requestor_in) (λ is. good.owner_in)

  -- this controller's line is in the table, and it has the block's words
  abbrev pub on_line : Option ℕ → Tested
  on_line from = follows_sender_table p q before.memory.state (sender_of c (λ k. (held_by before k).state) from) sent l.memory.next

  abbrev has_words : Option ℕ → Bool
  has_words None = good.claims.fresh
  has_words (Some d) = keeps (held_by before d).state

  -- a core has its row, with which its state fits after it, its words carry over, and it sends if it is meant to
  abbrev pub HasRow : ℕ → Type 0
  HasRow d =
      (row : CacheCell) × (cell_of p (held_by before d).state (seen_by d c q) ≡ Some row)
      × (fits p l.next.shared (cond l.next.owned (owns good.owner d) false) (cond (eqb d c) (Some q) None) row.next ≡ true) × (carries (held_by before d).state row.next).claim
      × (sends_so (payload_from p before c q (Some d)) (owns meant d) sent (on_line (Some d)) (has_words (Some d))).claim

  pub each_row : (d : ℕ) → d < length before.caches → HasRow d
  each_row =
      let (_, (fit, (carry, (_, (_, (sends, others)))))) = l.ends in
      λ d d_in. elim (cases_eq d c) [
        | inl own ↦ rw (own, of_choice (λ x. owns x c) (is_put_m q) (Some c) good.owner, eq-eqb c c refl) (l.row, l.is_row, fit, carry, rw l.is_row sends)
        | inr apart ↦
            let (row, is_row, (fit, (carry, sends))) = others _ _ (rw l.calm at (good.states d d_in)) (grind (arith, apart, good.is_owned)) in
            rw (of_choice (λ x. owns x d) (is_put_m q) (Some c) good.owner, ne_eqb d c apart) (row, is_row, fit, carry, rw is_row sends)
      ]

  pub sends : (from : Option ℕ) → IsBelow (length before.caches) from → (sends_so (payload_from p before c q from) (is_it meant from) sent (on_line from) (has_words from)).claim
  sends None below =
      let (_, (_, (_, (_, (by_memory, _))))) = l.ends in
      rw (l.is_memory, of_choice (λ x. not (is_some x)) (is_put_m q) (Some c) good.owner, good.is_owned) by_memory
  sends (Some d) below = (each_row d below).4

  pub sends_if_meant : (from : Option ℕ) → IsBelow (length before.caches) from → is_it meant from ≡ true → Sends p before c q from sent
  sends_if_meant None below is = memory_sends_row _ _ ((sends None tt).0 ∙ rw is refl)
  sends_if_meant (Some d) below is = (below, sends_row _ _ ((sends (Some d) below).0 ∙ rw is refl))

  -- one that sends is meant to, and what it sends is this payload, whose words it has
  pub sender_told : (from : Option ℕ) (payload : Payload) → Sends p before c q from payload
      → (from ≡ meant) × (payload ≡ sent) × (carries_value payload ≡ true → value_sent before from payload ≡ flat)
  sender_told from payload does =
      let so = sends from (sends_below p before c q from payload does) in
      let (is, same) = cond_some _ sent payload (sym so.0 ∙ sends_is p before c q from payload does) in
      ((it_is meant from).0 is, sym same, λ carrying. grind (arith, carrying, (so.1 is).1 (rw same carrying), does, good.fresh, good.kept))

-- an Order keeps the invariant of a picture
pub order_keeps : (s : Situation) (core block : ℕ) (q : Request) (new : Situation) (flat : List ℕ) → BlockInvariant s.protocol (length (picture_of s block).caches) flat (picture_of s block) → core < length (picture_of s block).caches
    → (o : Orders s core block q new) → BlockInvariant s.protocol (length (picture_of s block).caches) flat o.next
order_keeps s core block q new flat good in_row o =
    let p = s.protocol in
    let before : Picture = picture_of s block in
    let after : Picture = o.next in
    let l = look good o.ready.1 core q in_row o.ready.0 in
    let (from_meant, is_sent, words) = sender_told l o.from o.payload o.sent.sends in
    let (_, (_, (_, (was_fresh, _)))) = l.ends in
    let opened : Open = record { core = core; request = q; block = block; payload = o.payload; value = value_sent before o.from o.payload; from = o.from } in
    let opened_is : (x : Open) → after.transaction ≡ Some x → opened ≡ x = λ x is_x. same_Some _ _ (sym o.opened ∙ is_x) in
    let is_memory : after.memory.state ≡ l.memory.next = o.memory.2 ∙ ap (λ (m : MemCell). m.next) (same_Some _ _ (sym o.memory.1 ∙ l.is_memory)) in
    let line_after : (d : ℕ) → d < length before.caches
    → LineFits p l.next.shared (owns (cond l.next.owned good.owner None) d) (own_open (Some opened) d) flat before.memory.value (held_by after d) = λ d d_in.
    let (row, is_row, fit, carry, _) = each_row l d d_in in
    let (taken, is_taken, moved) = o.taken.rows d d_in in
    let same : row ≡ taken = same_Some _ _ (sym is_row ∙ is_taken) in
    let old = held_by before d in
    rw (moved, of_choice (λ x. owns x d) l.next.owned good.owner None) (carried_line old (line_of good d d_in) _ (λ h. grind (arith, h))
    (rw same at fit) (rw same at carry) (IsProper-order p old d core q taken.action taken.next (good.proper d d_in) is_taken)) in
    record {
      claims = l.next;
      is_claims = rw (o.opened, is_memory, is_sent) l.is_next;
      owner = cond l.next.owned good.owner None;
      owner_in = cond_both l.next.owned good.owner None (OwnerIn (length before.caches)) (λ stays. good.owner_in) (λ gone o is. cc);
      is_owned = cond_both l.next.owned good.owner None (λ x. is_some x ≡ l.next.owned) (λ stays. good.is_owned ∙ (l.ends.0 stays ∙ sym stays)) sym;
      states = λ d d_in. rw o.opened (line_after d d_in).fit;
      kept = λ d d_in. (line_after d d_in).kept;
      clean = λ d d_in h. o.value ∙ (line_after d d_in).clean h;
      fresh = λ h. o.value ∙ elim (or_cases good.claims.fresh _ (was_fresh h)) [ inl is ↦ good.fresh is | inr is ↦ good.clean core in_row is ];
      carried = λ x is_x. rw (← opened_is x is_x) words;
      proper = λ d d_in. (line_after d d_in).proper;
      requestor_in = λ x is_x. rw (← opened_is x is_x) in_row;
      sender_in = λ x is_x. rw (← opened_is x is_x) (λ sender is. meant_in l sender (sym from_meant ∙ is));
    }
