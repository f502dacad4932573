-- Only an Ask moves its core out of I.
use Rattle.snoop_engine.proofs.Common.{common_steps, ◌≡◌, ℕ, ◌≤◌, Bool, true, false, List, [], length, Some, None, Option, refl, sym, ap, ◌∙◌, inl, inr, arith, ◌==◌, ◌%◌, Ok, slice_index_or, slice_set, if◌then◌else◌, option_map_or, cases_lt, get_or_past, Protocol, Op, Step, Ask, Order, Respond, CacheCell, I, Request, PutM, arrival, Did, Open, Situation, picture_of, state_of, Reply, Line, Picture, held_at, held_by, nothing_held, ArrivesFor, GoesFirst, le-ltb, cell_of, other, own, nothing_there, with_line, ArePossibleHolders, of_holder}
use Rattle.snoop_rules.specs.declared.names.Payload.{Payload}
use Rattle.snoop_blocks.specs.CoreSet.{Puts, has, set_of}
use Rattle.snoop_model.proofs.Lists.{set_cases}
use Rattle.std.proofs.lemmas.Nat.Bits.{bit_at-zero}
use Rattle.snoop_engine.proofs.TakenLemmas.{same_shape}

-- a request that a core in I sees leaves it there
seen_row : (p : Protocol) (own_one : Bool) (request : Request) (row : CacheCell) → cell_of p I (if own_one then own request else other request) ≡ Some row → row.next ≡ I
seen_row p own_one request row h = grind (arith, common_steps)

-- no data comes to a core in I
no_row : (p : Protocol) (payload : Payload) → option_map_or (λ event. cell_of p I event) (arrival payload) None ≡ None
no_row p payload = grind (arith, common_steps)

-- a core that is in I of a block before a step
module _ (old new : Situation) (core block : ℕ) (idle : state_of old core block ≡ I) where
  idle_in : (b : ℕ) → block ≡ b → state_of old core b ≡ I
  idle_in b same = rw (← same) idle

  -- a block has a new picture
  in_i_of_picture : (b : ℕ) (next : Picture) → (block ≡ b → (held_by next core).state ≡ I) → (held_by (slice_index_or (slice_set old.pictures b next) block nothing_there) core).state ≡ I
  in_i_of_picture b next here = elim (set_cases old.pictures b block next nothing_there) [ inl p ↦ rw p.1 (here p.0) | inr e ↦ rw e idle ]

  -- what a response brings to the caches
  in_i_after_arrival : (request : Request) (b : ℕ) (closing : Open) (did : Option Did) (next : List Line) → block ≡ b → ArrivesFor request closing old.protocol old.log (picture_of old b).caches next did → (held_at next core).state ≡ I
  in_i_after_arrival PutM b closing did next same f = rw f.0 (idle_in b same)
  in_i_after_arrival _ b closing did next same f =
      let row = no_row old.protocol closing.payload in
      let cases = set_cases (picture_of old b).caches closing.core core f.line nothing_held in
      rw f.held (grind (arith, common_steps, idle_in b same, cases, f.fills.arrives, f.fills.is_row))

-- the step is the core's Ask for the block
abbrev pub IsAskOf : Step → ℕ → ℕ → Type 0
IsAskOf (Ask asker on word asking) core block = (core ≡ asker) × (block ≡ on)
IsAskOf _ core block = ⊥

pub stays_in_i : (old new : Situation) (step : Step) (answer : Reply) → GoesFirst old step (Ok answer) new → (core block : ℕ) → (IsAskOf step core block → ⊥) → state_of old core block ≡ I → state_of new core block ≡ I
stays_in_i old new (Ask asker on word asking) answer goes core block another idle = elim goes.1.1.moves [
  | inl absent ↦ rw absent.3 idle
  | inr a ↦
      let before : Picture = picture_of old goes.0 in
      rw a.after (in_i_of_picture old new core block idle goes.0 (with_line before asker a.held)
      (λ same. let held = idle_in old new core block idle goes.0 same in
      grind (arith, common_steps, set_cases before.caches asker core a.held nothing_held, another, held, goes.1.1.on_block)))
]
stays_in_i old new (Order requestor) answer goes core block another idle =
    let o = goes.1.1.orders in
    rw o.after (in_i_of_picture old new core block idle goes.0 o.next (λ same. elim (cases_lt core (length (picture_of old goes.0).caches)) [
      | inl there ↦ let row = o.taken.rows core there in rw row.2 (seen_row old.protocol (core == requestor) goes.1.1.request row.0 (rw (idle_in old new core block idle goes.0 same) at row.1))
      | inr past ↦ let long = o.taken.same_length in rw (get_or_past o.next.caches core nothing_held (omega arith))
    ]))
stays_in_i old new (Respond on) answer goes core block another idle =
    let m = goes.1.1 in
    let r = m.responds in
    rw r.after (in_i_of_picture old new core block idle goes.0 r.next (λ same. in_i_after_arrival old new core block idle m.closing.request goes.0 m.closing m.did r.next.caches same r.requestor))

-- the sets after a step that is no Ask
pub follow_other : (old new : Situation) (step : Step) (answer : Reply) (sets : List (List ℕ)) → ((core block : ℕ) → IsAskOf step core block → ⊥) → ArePossibleHolders old sets → GoesFirst old step (Ok answer) new → ArePossibleHolders new sets
follow_other old new step answer sets other are goes = record {
  many = rw (same_shape old new step answer goes) are.many;
  others = λ block core out. stays_in_i old new step answer goes core block (other core block) (are.others block core out);
}

-- the sets after an Ask, whose core was put into one of them
pub follow_ask : (old new : Situation) (asker on word : ℕ) (asking : Op) (answer : Reply) (sets next : List (List ℕ)) → ArePossibleHolders old sets → old.shape.cores ≤ 256
    → GoesFirst old (Ask asker on word asking) (Ok answer) new → Puts on asker sets next → ArePossibleHolders new next
follow_ask old new asker on word asking answer sets next are few goes puts =
    let within = goes.1.1.within in
    let on_block = goes.1.1.on_block in
    let put : has (set_of next on) asker ≡ true = puts.here (omega arith) (omega arith) in
    record {
      many = rw (puts.many, same_shape old new (Ask asker on word asking) answer goes) are.many;
      others = λ block core out.
          let another : (core ≡ asker) × (block ≡ on) → ⊥ = λ it. let is = rw (it.0, it.1) at out in cc in
          stays_in_i old new (Ask asker on word asking) answer goes core block another (are.others block core (sym (puts.apart block core (λ here same. another (same, here))) ∙ out));
    }

-- a core in I has no line at an Order
pub no_line_in_i : (s : Situation) (requestor block : ℕ) (request : Request) (core : ℕ) → state_of s core block ≡ I → of_holder s requestor block request core ≡ []
no_line_in_i s requestor block request core is = grind (arith, common_steps)

-- nor has a core that is not there
pub no_line_past : (s : Situation) (requestor block : ℕ) (request : Request) (core : ℕ) → s.shape.cores ≤ core → of_holder s requestor block request core ≡ []
no_line_past s requestor block request core past = rw (le-ltb core s.shape.cores past) refl

-- no core is in the set that nothing was put into
pub has_nothing : (core : ℕ) → has [] core ≡ false
unfolding has
has_nothing core = ap (λ (b : ℕ). b == 1) (bit_at-zero (core % 64))
