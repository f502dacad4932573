-- What a row sends, and tests of the rows of an Order and of a Respond, and of the table of senders, computed over the whole tables.
use Rattle.std.proofs.lemmas.Map.Views.{Contains-from_any}
use Rattle.snoop_model.proofs.Common.{all_memories, all_payloads, all_payloads-at, all_protocols, all_requests, all_requests-at, all_states, all_states-at, arith, arrival, arrival_at_memory, at_memory, awaited_request, Bool, CacheAction, CacheCell, CacheEvent, CacheState, carries_value, cell_of, Claims, claims_of, cond, false, FillLoad, FillStore, fits, GetM, GetS, held_by, in_protocol, is_clean, is_get_m, is_owner, is_put_m, is_sharer, IsSenderLine, IsSomeAnd, keeps, lines_of, list_any, MatchBool, MemAction, MemCell, MemEvent, memories, Memory, memory_cell_of, MemoryCell, MemState, missed_request, None, not, Option, option_and_then, option_or, Other, other, own, Payload, payloads, Picture, Protocol, PutM, refl, Request, Requestor, requests, same, same_true, sameb, seen_by, Sender, sender_of, Sends, Some, states, takes_payload, Target, true, unwrap_or, wait_fits, waiting_request, ℕ, ◌&&◌, ◌||◌, ◌↔◌, ◌≡◌, ap, same_Some, and_parts}
use Rattle.snoop_model.proofs.Tables.{Rows.carries, Tested.{each_fitting, each_memory, each_of, each_open, each_protocol, equal, fails, found, given, holds, provided, Tested, unless, ◌also◌}}
use Rattle.snoop_rules.specs.declared.names.CacheAction.TheVariants as action
use Rattle.snoop_rules.specs.declared.names.MemAction.TheVariants as mem_action
use Rattle.snoop_rules.specs.declared.names.Payload.TheVariants as payload_kind

-- the payload of a cache's action, if it sends
abbrev pub payload_sent : CacheAction → Option Payload
payload_sent (action.Send payload target) = Some payload
payload_sent _ = None

-- the payload of memory's action, if it sends
abbrev pub memory_payload : MemAction → Option Payload
memory_payload (mem_action.Send payload) = Some payload
memory_payload _ = None

-- the payload that a core's row sends, if there is a row and it sends
abbrev pub sent_by : Option CacheCell → Option Payload
sent_by None = None
sent_by (Some row) = payload_sent row.action

-- the payload that memory's row sends, if there is a row and it sends
abbrev pub sent_by_memory : Option MemCell → Option Payload
sent_by_memory found = option_and_then (λ row. memory_payload row.action) found

-- an action that sends
sending : (act : CacheAction) (payload : Payload) → payload_sent act ≡ Some payload → (target : Target) × (act ≡ action.Send payload target)
sending (action.Send sent target) payload h = (target, ap (λ (x : Payload). action.Send x target) (same_Some _ _ h))
sending _ payload h = cc

-- a row that sends
pub sends_row : (found : Option CacheCell) (payload : Payload) → sent_by found ≡ Some payload → (target : Target) × ((next : CacheState) × (found ≡ Some (record { action = action.Send payload target; next = next })))
sends_row None payload h = cc
sends_row (Some row) payload h = let (target, does) = sending row.action payload h in (target, (row.next, rw (← does)))

pub memory_sends_row : (found : Option MemCell) (payload : Payload) → sent_by_memory found ≡ Some payload → (next : MemState) × (found ≡ Some (record { action = mem_action.Send payload; next = next }))
memory_sends_row None payload h = cc
memory_sends_row (Some row) payload h = (row.next, grind (arith, h))

module _ (p : Protocol) (before : Picture) (core : ℕ) (q : Request) where
  -- what the row of memory, or of a core, sends for the core's request
  abbrev pub payload_from : Option ℕ → Option Payload
  payload_from None = sent_by_memory (memory_cell_of p before.memory.state (at_memory q))
  payload_from (Some k) = sent_by (cell_of p (held_by before k).state (seen_by k core q))

  pub sends_is : (from : Option ℕ) (payload : Payload) → Sends p before core q from payload → payload_from from ≡ Some payload
  sends_is from payload sends = grind (arith, sends)

-- the row for an event, if there are both
abbrev pub row_for : Protocol → CacheState → Option CacheEvent → Option CacheCell
row_for p s found = option_and_then (cell_of p s) found

abbrev pub memory_row_for : Protocol → MemState → Option MemEvent → Option MemCell
memory_row_for p m found = option_and_then (memory_cell_of p m) found

-- memory's row for a message, or one that does nothing
abbrev pub settled_if : Bool → Protocol → Option MemEvent → MemState → Option MemCell
settled_if takes p found old = cond takes (memory_row_for p old found) (Some (record { action = mem_action.None; next = old }))

pub settled_so : (takes : Bool) (p : Protocol) (found : Option MemEvent) (old : MemState) (act : MemAction) (new : MemState)
    → MatchBool takes (IsSomeAnd found (λ event. MemoryCell p old event act new)) ((act ≡ mem_action.None) × (new ≡ old)) ↔ (settled_if takes p found old ≡ Some (record { action = act; next = new }))
settled_so takes p found old act new = (λ settled. grind (arith, settled), λ h. grind (arith, h))

-- the row by which memory takes the message of a transaction
abbrev pub settled_row : Protocol → Request → MemState → Payload → Option MemCell
settled_row p q m pl = settled_if (takes_payload q m) p (arrival_at_memory pl) m

abbrev pub writes : MemAction → Bool
writes mem_action.Write = true
writes _ = false

-- data performs the operation that has missed
abbrev pub fills : Option Request → CacheAction → Bool
fills (Some GetS) FillLoad = true
fills (Some GetM) FillStore = true
fills _ _ = false

-- the requestor owns the block from then on
abbrev pub gains : Claims → Claims → Bool
gains before after = not before.owned && after.owned

-- the requestor's row for the data: its state fits after it, it is clean only where memory's value is the block's, and it performs what the request asked
abbrev pub answer_claims : Protocol → Request → Claims → Claims → Bool → CacheCell → Tested
answer_claims p q st after owns row =
    holds (fits p after.shared (cond (gains st after) true owns) None row.next)
    also provided (is_clean row.next) (λ _. holds st.fresh also fails (is_get_m q)) also holds (fills (Some q) row.action)

-- another core fits after it as it is, and after a GetM it may not read, if it owns the block only where one does
abbrev pub stays_so : Protocol → Request → Claims → Claims → CacheState → Bool → Tested
stays_so p q st after s owns =
    provided (not owns || st.owned) (λ _. holds (fits p after.shared (cond (gains st after) false owns) None s) also provided (is_get_m q) (λ _. fails (keeps s)))

-- what is claimed of a Respond, with memory's row and the claims after it: data comes for a GetS or a GetM; an owner stays one; a PutM makes none; memory writes only
-- data that comes; memory is fresh where it is claimed; a requestor has its row; other cores may stay as they are
abbrev pub respond_claims : Protocol → Request → Payload → Claims → MemCell → Claims → Tested
respond_claims p q pl st row after =
    unless (is_put_m q) (λ _. holds (carries_value pl)) also holds (not st.owned || after.owned) also provided (is_put_m q) (λ _. fails (gains st after))
    also provided (writes row.action) (λ _. holds (carries_value pl))
    also provided after.fresh (λ _. fails (is_get_m q) also unless (writes row.action) (λ _. holds st.fresh))
    also unless (is_put_m q) (λ _. each_fitting p st.shared (Some q) (λ s owns. found (row_for p s (arrival pl)) (answer_claims p q st after owns)))
    also unless (is_put_m q) (λ _. each_fitting p st.shared None (stays_so p q st after))
    also provided (is_put_m q) (λ _. each_open p st.shared (Some (q, pl)) (stays_so p q st after))

abbrev every_respond : Tested
every_respond = each_protocol λ p. each_memory λ m. each_of all_requests all_requests-at λ q. each_of all_payloads all_payloads-at λ pl.
    given (claims_of p m (Some (q, pl))) λ st. found (settled_row p q m pl) λ row. found (claims_of p row.next None) λ after. respond_claims p q pl st row after

pub respond_rule : every_respond.claim
unfolding all_protocols all_memories all_states all_requests all_payloads claims_of fits is_owner is_sharer is_clean wait_fits in_protocol same
respond_rule = every_respond.sound refl

-- data performs the operation that has missed, and is awaited no more
abbrev every_data : Tested
every_data = each_protocol λ p. each_of all_states all_states-at λ s. each_of all_payloads all_payloads-at λ message. given (row_for p s (arrival message)) λ row.
    holds (fills (missed_request s) row.action) also equal requests tt (awaited_request row.next) None

pub data_rule : every_data.claim
unfolding all_protocols all_states all_payloads
data_rule = every_data.sound refl

-- no data comes for a PutM
pub awaited-get : (s : CacheState) → awaited_request s ≡ Some PutM → ⊥
awaited-get s awaits = grind arith

abbrev same_sender : Sender → Sender → Bool
same_sender Memory Memory = true
same_sender (Requestor s) (Requestor t) = sameb states s t
same_sender (Other s) (Other t) = sameb states s t
same_sender _ _ = false

same_sender-true : (x y : Sender) → same_sender x y ≡ true → x ≡ y
same_sender-true x y h = grind (arith, same_true states tt)

-- who sends, the payload, and memory's state after the Order and after the Respond
abbrev Row : Type 0
Row = Sender × Payload × MemState × MemState

abbrev same_row : Row → Row → Bool
same_row x y = same_sender x.0 y.0 && (sameb payloads x.1 y.1 && (sameb memories x.2 y.2 && sameb memories x.3 y.3))

same_row-true : (x y : Row) → same_row x y ≡ true → x ≡ y
same_row-true x y h =
    let (sender, rest) = and_parts (same_sender x.0 y.0) _ h in
    let (sent, rest) = and_parts (sameb payloads x.1 y.1) _ rest in
    let (next, done) = and_parts (sameb memories x.2 y.2) _ rest in
    rw (same_sender-true x.0 y.0 sender, same_true payloads tt x.1 y.1 sent, same_true memories tt x.2 y.2 next, same_true memories tt x.3 y.3 done) refl

-- these are on a line of the table, with memory's state after the Respond in its last column
abbrev pub follows_sender_table : Protocol → Request → MemState → Sender → Payload → MemState → Tested
follows_sender_table p q m sender sent next = found (settled_row p q next sent) (λ row. holds (list_any (same_row (sender, sent, next, row.next)) (lines_of p q m)))

pub led_line : (p : Protocol) (before : Picture) (c : ℕ) (q : Request) (from : Option ℕ) (sent : Payload) (next : MemState)
    → (follows_sender_table p q before.memory.state (sender_of c (λ k. (held_by before k).state) from) sent next).claim → IsSenderLine p before c q from sent next
led_line p before c q from sent next found = record {
  done = found.0.next;
  line = Contains-from_any same_row-true _ (lines_of p q before.memory.state) found.2;
  act = found.0.action;
  settled = (settled_so (takes_payload q next) p (arrival_at_memory sent) next found.0.action found.0.next).1 found.1;
}

-- what a controller sends is this payload if it is meant to send, else nothing; one that sends is on a line of the table, and has the words that the payload carries
abbrev pub sends_so : Option Payload → Bool → Payload → Tested → Bool → Tested
sends_so sent meant pl on_line has_words =
    equal payloads tt sent (cond meant (Some pl) None) also provided meant (λ _. on_line also provided (carries_value pl) (λ _. holds has_words))

-- the payload of an Order, from the requestor's row, or memory's, or an owner's
abbrev pub payload_of : CacheCell → MemCell → Payload
payload_of row memory = unwrap_or (option_or (sent_by (Some row)) (sent_by_memory (Some memory))) payload_kind.Data

-- another core, which owns the block or not, has a row: its state fits after it, and carries over, and it sends where it owns and the request is no PutM
abbrev pub other_claims : Protocol → MemState → Request → MemCell → Payload → Claims → CacheState → Bool → CacheCell → Tested
other_claims p m q memory pl after s owns row =
    holds (fits p after.shared (cond after.owned owns false) None row.next) also carries s row.next
    also sends_so (sent_by (Some row)) (cond (is_put_m q) false owns) pl (follows_sender_table p q m (Other s) pl memory.next) (keeps s)

-- what is claimed of an Order, with memory's row, the requestor's, and the claims after it: an owner then was one; the requestor's state fits; it carries over; memory
-- is fresh where it is claimed; memory sends if it is meant to; so does the requestor; so do other cores
abbrev pub end_claims : Protocol → MemState → Claims → CacheState → Bool → Request → MemCell → CacheCell → Claims → Tested
end_claims p m st s owns q memory row after =
    let pl = payload_of row memory in
    provided after.owned (λ _. holds st.owned) also holds (fits p after.shared (cond after.owned owns false) (Some q) row.next) also carries s row.next
    also provided after.fresh (λ _. holds (st.fresh || is_clean s))
    also sends_so (sent_by_memory (Some memory)) (cond (is_put_m q) false (not st.owned)) pl (follows_sender_table p q m Memory pl memory.next) st.fresh
    also sends_so (sent_by (Some row)) (cond (is_put_m q) true owns) pl (follows_sender_table p q m (Requestor s) pl memory.next) (keeps s)
    also each_fitting p st.shared None (λ s other_owns. provided (not (other_owns && owns) && (not other_owns || st.owned))
    (λ _. found (cell_of p s (other q)) (other_claims p m q memory pl after s other_owns)))

-- an Order at a quiet line, by a core whose state fits, has these rows, and the claims after it are in the table
abbrev every_order : Tested
every_order = each_protocol λ p. each_memory λ m. given (claims_of p m None) λ st. each_fitting p st.shared None λ s owns. provided (not owns || st.owned) λ _.
    given (waiting_request s) λ q. found (memory_cell_of p m (at_memory q)) λ memory. found (cell_of p s (own q)) λ row.
    found (claims_of p memory.next (Some (q, payload_of row memory))) λ after. end_claims p m st s owns q memory row after

pub sends_rule : every_order.claim
unfolding all_protocols all_memories all_states claims_of fits is_owner is_sharer is_clean wait_fits in_protocol same
sends_rule = every_order.sound refl
