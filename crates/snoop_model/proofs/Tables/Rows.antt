-- What holds of every row, of the states, and of the table of claims, found by trying all.
use Rattle.snoop_model.proofs.Common.{[], all_events, all_events-at, all_memories, all_payloads, all_payloads-at, all_protocols, all_requests, all_requests-at, all_states, all_states-at, and-false, and-true, arith, as_access, asked, awaited_request, Bool, CacheAction, CacheCell, CacheEvent, CacheState, carries_value, Cell, cell_of, claims_of, Drop, Evict, false, FillLoad, FillStore, fits, GetM, GetS, Hit, I, if◌then◌else◌, in_protocol, is_clean, is_hit, is_load, is_owner, is_put_m, is_sharer, is_some, IsProper, Issue, keeps, kept_on, Line, List, missed_request, moves_to, None, not, Op, Option, option_map_or, other, own, Protocol, PutM, refl, Request, request_for, requests, same, seen_by, Some, Stall, states, takes_payload, Talk, true, wait_fits, waiting_request, ℕ, ◌&&◌, ◌==◌, ◌||◌, ◌≡◌}
use Rattle.snoop_model.proofs.Tables.Tested.{alike, each_bool, each_fitting, each_memory, each_of, each_open, each_option, each_protocol, equal, fails, found, given, holds, provided, Tested, unless, ◌also◌}
use Rattle.snoop_rules.specs.declared.names.CacheEvent.TheVariants as event
use Rattle.snoop_model.specs.Pictures.OneWriter.{lets_load, lets_store}

-- the same requests, or none
abbrev pub same_request : Option Request → Option Request → Tested
same_request = equal requests tt

-- kept words are given up in this state
abbrev given_up : CacheState → Bool
given_up s = not (is_some (kept_on s (Some [])))

-- the request that has missed once one is issued at this event
abbrev pub missed_at : CacheEvent → Option Request
missed_at event.Load = Some GetS
missed_at event.Store = Some GetM
missed_at _ = None

-- the request that serves what is asked
abbrev pub serving : CacheEvent → Option Request
serving event.Evict = Some PutM
serving e = missed_at e

-- the core waits in a state, for its own request to be ordered or for data
abbrev pub is_busy : CacheState → Bool
is_busy state = is_some (waiting_request state) || is_some (awaited_request state)

-- what an action does to what is kept, to what has missed and to what waits: an issue, of the request that serves, begins to wait where nothing did; a fill ends what has missed; a hit, of kept words, and an Evict's drop, to I, leave both; a stall comes only where the core waits; nothing else answers what is asked
abbrev pub action_claims : CacheState → CacheEvent → CacheState → CacheAction → Tested
action_claims s e n (Issue q) =
    alike (keeps n) (keeps s && not (given_up n)) also (same_request (waiting_request s) None also same_request (waiting_request n) (Some q))
    also (same_request (missed_request s) None also same_request (missed_request n) (missed_at e)) also same_request (Some q) (serving e)
action_claims s e n Hit =
    holds (keeps n) also same_request (missed_request s) (missed_request n) also same_request (waiting_request n) (waiting_request s) also holds (keeps s) also holds (is_some (missed_at e))
action_claims s e n Drop =
    alike (keeps n) (keeps s && not (given_up n)) also same_request (missed_request s) (missed_request n) also same_request (waiting_request n) (waiting_request s)
    also (same_request (serving e) (Some PutM) also equal states tt (Some n) (Some I))
action_claims s e n Stall = holds (is_busy s)
action_claims s e n FillLoad = same_request (serving e) None also holds (keeps n) also same_request (missed_request n) None also same_request (waiting_request n) (waiting_request s)
action_claims s e n FillStore = same_request (serving e) None also holds (keeps n) also same_request (missed_request n) None also same_request (waiting_request n) (waiting_request s)
action_claims s e n _ = same_request (serving e) None also holds true

-- of each row: what its action does; and after a row for what is asked the core awaits only what it awaited before
abbrev every_row : Tested
every_row = each_protocol λ p. each_of all_states all_states-at λ s. each_of all_events all_events-at λ e. given (cell_of p s e) λ row.
    action_claims s e row.next row.action also given (serving e) (λ _. given (awaited_request row.next) (λ r. same_request (awaited_request s) (Some r)))

rule : every_row.claim
unfolding all_protocols all_states all_events same
rule = every_row.sound refl

pub action_rule : (p : Protocol) (s : CacheState) (e : CacheEvent) (a : CacheAction) (n : CacheState) → Cell p s e a n → (action_claims s e n a).claim
action_rule p s e a n row = (rule p s e (record { action = a; next = n }) row).0

-- at an Order a core's own request ends its waiting, and only what it asks may be awaited then; another's leaves what waits
abbrev pub order_claims : CacheState → Bool → Request → CacheState → Tested
order_claims s mine q n =
    alike (keeps n) (keeps s && not (given_up n)) also same_request (missed_request s) (missed_request n) also same_request (waiting_request n) (if mine then None else waiting_request s)
    also given (awaited_request n) (λ r. holds mine also same_request (Some q) (Some r))

abbrev every_order : Tested
every_order = each_protocol λ p. each_of all_states all_states-at λ s. each_bool λ mine. each_of all_requests all_requests-at λ q.
    given (cell_of p s (if mine then own q else other q)) λ row. order_claims s mine q row.next

every_order_rule : every_order.claim
unfolding all_protocols all_states all_requests same
every_order_rule = every_order.sound refl

pub order_rule : (p : Protocol) (s : CacheState) (k core : ℕ) (q : Request) (a : CacheAction) (n : CacheState) → Cell p s (seen_by k core q) a n → (order_claims s (k == core) q n).claim
order_rule p s k core q a n row = every_order_rule p s (k == core) q (record { action = a; next = n }) row

module _ (p : Protocol) (s : CacheState) (e : CacheEvent) (a : CacheAction) (n : CacheState) where
  -- a fill ends all waiting and keeps a value
  pub fill-waits : (asking : Op) → a ≡ (if is_load asking then FillLoad else FillStore) → Cell p s e a n → waiting_request n ≡ waiting_request s
  fill-waits asking fill row = grind (arith, fill, action_rule p s e a n row)

  pub IsProper-fill : (asking : Op) (after : List ℕ) → a ≡ (if is_load asking then FillLoad else FillStore) → Cell p s e a n
      → IsProper (record { state = n; kept = Some after; waiting = None })
  IsProper-fill asking after fill row = grind (arith, fill, action_rule p s e a n row)

pub serving-asked : (asking : Op) → serving (asked asking) ≡ Some (request_for asking)
serving-asked asking = grind arith

-- an Ask leaves what its core awaits
pub awaited-asked : (p : Protocol) (s : CacheState) (asking : Op) (a : CacheAction) (n : CacheState) → Cell p s (asked asking) a n → (r : Request) → awaited_request n ≡ Some r → awaited_request s ≡ Some r
awaited-asked p s asking a n row = (rule p s (asked asking) (record { action = a; next = n }) row).1 (request_for asking) (serving-asked asking)

is_some-kept_on : (next : CacheState) (kept : Option (List ℕ)) (b : Bool) → is_some kept ≡ b → is_some (kept_on next kept) ≡ (b && not (given_up next))
is_some-kept_on next kept b h = grind (arith, and-false b, and-true b)

-- an issue makes a core wait that did not
pub issue-waits : (p : Protocol) (s : CacheState) (e : CacheEvent) (q : Request) (n : CacheState) → Cell p s e (Issue q) n
    → (waiting_request s ≡ None) × (waiting_request n ≡ Some q)
issue-waits p s e q n row = (action_rule p s e (Issue q) n row).1.0

pub IsProper-issue : (p : Protocol) (old : Line) (word : ℕ) (asking : Op) (q : Request) (n : CacheState) → IsProper old → Cell p old.state (asked asking) (Issue q) n
    → IsProper (record { state = n; kept = kept_on n old.kept; waiting = as_access word asking })
IsProper-issue p old word asking q n proper row =
    let kept = is_some-kept_on n old.kept (keeps old.state) proper.kept in
    grind (arith, proper, kept, action_rule p old.state (asked asking) (Issue q) n row)

-- a hit is of a load or a store, of words that are kept
pub hit_keeps : (p : Protocol) (s : CacheState) (e : CacheEvent) (n : CacheState) → Cell p s e Hit n → (keeps s ≡ true) × (is_some (missed_at e) ≡ true)
hit_keeps p s e n row = (action_rule p s e Hit n row).1.1.1

pub IsProper-hit : (p : Protocol) (old : Line) (e : CacheEvent) (n : CacheState) (after : List ℕ) → IsProper old → Cell p old.state e Hit n
    → IsProper (record { state = n; kept = Some after; waiting = old.waiting })
IsProper-hit p old e n after proper row = grind (arith, proper, action_rule p old.state e Hit n row)

pub IsProper-drop : (p : Protocol) (old : Line) (e : CacheEvent) (n : CacheState) → IsProper old → Cell p old.state e Drop n → IsProper (moves_to n old)
IsProper-drop p old e n proper row = grind (arith, proper, is_some-kept_on n old.kept (keeps old.state) proper.kept, action_rule p old.state e Drop n row)

pub IsProper-order : (p : Protocol) (old : Line) (k core : ℕ) (q : Request) (a : CacheAction) (n : CacheState) → IsProper old → Cell p old.state (seen_by k core q) a n → IsProper (moves_to n old)
IsProper-order p old k core q a n proper row =
    grind (arith, proper, is_some-kept_on n old.kept (keeps old.state) proper.kept, order_rule p old.state k core q a n row)

-- an Evict in I has no row
pub no_row : (p : Protocol) (s : CacheState) (asking : Op) (a : CacheAction) (n : CacheState) → asking ≡ Evict → s ≡ I → Cell p s (asked asking) a n → ⊥
no_row p s asking a n e i row = let none = rw (e, i) at row in cc

pub some_of : {A : Type 0} (o : Option A) → is_some o ≡ true → (a : A) × (o ≡ Some a)
some_of None h = cc
some_of (Some a) h = (a, refl)

-- no row makes a reader, or a clean owner, of a core that was none
abbrev pub carries : CacheState → CacheState → Tested
carries s next = provided (keeps next) (λ _. holds (keeps s)) also provided (is_clean next) (λ _. holds (is_clean s))

-- the talk brings data
abbrev pub brings_data : Option Talk → Bool
brings_data talk = option_map_or (λ t. carries_value t.1) talk false

-- a claim of each talk
abbrev pub each_talk : (Option Talk → Tested) → Tested
each_talk = each_option (λ f. all_requests (λ q. all_payloads (λ pl. f (q, pl)))) (λ f h t. all_payloads-at _ (all_requests-at _ h t.0) t.1)

-- where a core owns the block, memory isn't fresh, no data is under way, and no other core may read it; where none does and no data is under way, memory is fresh
abbrev every_claims : Tested
every_claims = each_protocol λ p. each_memory λ m. each_talk λ t. given (claims_of p m t) λ st.
    provided st.owned (λ _. fails st.fresh also fails (brings_data t) also each_open p st.shared t (λ s owns. unless owns (λ _. fails (keeps s))))
    also unless st.owned (λ _. unless (brings_data t) (λ _. holds st.fresh))

pub claims_rule : every_claims.claim
unfolding all_protocols all_memories all_states all_requests all_payloads claims_of fits is_owner is_sharer is_clean wait_fits in_protocol same
claims_rule = every_claims.sound refl

-- where memory's state lets no core store, none owns the block; where it lets none load, none keeps words of it either; where it lets one store and nothing is open, one owns it; and where it waits for a message something is open
abbrev every_memory : Tested
every_memory = each_protocol λ p. each_memory λ m. each_talk λ t. given (claims_of p m t) λ st.
    unless (lets_store m) (λ _. fails st.owned)
    also unless (lets_load m) (λ _. fails st.owned also each_open p st.shared t (λ s owns. unless owns (λ _. fails (keeps s))))
    also provided (lets_store m) (λ _. unless (is_some t) (λ _. holds st.owned))
    also provided (takes_payload GetS m) (λ _. holds (is_some t))

pub memory_rule : every_memory.claim
unfolding all_protocols all_memories all_states all_requests all_payloads claims_of fits is_owner is_sharer is_clean wait_fits in_protocol same
memory_rule = every_memory.sound refl

abbrev pub is_store : CacheEvent → Bool
is_store event.Store = true
is_store _ = false

-- an Evict in I, which the machine answers with no row
abbrev pub is_idle_evict : CacheState → CacheEvent → Bool
is_idle_evict I event.Evict = true
is_idle_evict _ _ = false

-- what is claimed of the row of an Ask: the state fits after it, and carries over, but at a store's hit, which is the owner's, and not clean then
abbrev pub asked_row : Protocol → Bool → Bool → Option Request → CacheState → CacheEvent → CacheCell → Tested
asked_row p shared ow w s e r =
    holds (fits p shared ow w r.next) also unless (is_hit r.action && is_store e) (λ _. carries s r.next)
    also provided (is_hit r.action && is_store e) (λ _. holds ow also fails (is_clean r.next))

-- there is a row but for an Evict in I
abbrev pub ask_claims : Protocol → Bool → Bool → Option Request → CacheState → CacheEvent → Tested
ask_claims p shared ow w s e = unless (is_idle_evict s e) (λ _. found (cell_of p s e) (λ r. holds true)) also given (cell_of p s e) (asked_row p shared ow w s e)

-- a core whose state fits may store where it owns the block, and load where it keeps words;
-- after its own GetS or GetM it awaits the data, and after its own PutM it keeps nothing; and its row for what is asked is as claimed
abbrev every_fit : Tested
every_fit = each_protocol λ p. each_bool λ shared. each_option all_requests all_requests-at λ w. each_fitting p shared w λ s owns.
    provided owns (λ _. found (cell_of p s event.Store) (λ row. holds (is_hit row.action)))
    also provided (keeps s) (λ _. found (cell_of p s event.Load) (λ row. holds (is_hit row.action)))
    also given w (λ q. unless (is_put_m q) (λ _. equal requests tt (awaited_request s) (Some q)) also provided (is_put_m q) (λ _. fails (keeps s)))
    also each_of all_events all_events-at (λ e. given (serving e) (λ _. ask_claims p shared owns w s e))

pub fit_rule : every_fit.claim
unfolding all_protocols all_states all_requests all_events fits is_owner is_sharer is_clean wait_fits in_protocol same
fit_rule = every_fit.sound refl

pub ask_rule : (p : Protocol) (shared ow : Bool) (w : Option Request) (s : CacheState) (o : Op) → fits p shared ow w s ≡ true → (ask_claims p shared ow w s (asked o)).claim
ask_rule p shared ow w s o fit = (fit_rule p shared w s ow fit).1.1.1 (asked o) (request_for o) (serving-asked o)
