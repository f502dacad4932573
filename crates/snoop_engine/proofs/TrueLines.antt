-- Each line of the frames of a run fits its step, and no row of a step that is taken is left out.
use Rattle.snoop_engine.proofs.Common.{common_steps, ◌≡◌, ◌⊎◌, ℕ, ◌<◌, ◌+◌, Bool, true, false, zero, suc, List, [], ◌∷◌, length, Option, Some, None, refl, sym, ap, ◌∙◌, inl, inr, arith, ◌≢◌, All, IsSomeAnd, MatchBool, Result, Ok, Err, if◌then◌else◌, flat_map, range_with_len, option_map_or, All-append, All-cons, All-nil, Extent, Protocol, Op, Step, Ask, Order, Respond, CacheEvent, CacheState, I, MemEvent, Request, PutM, arrival, arrival_at_memory, asked, at_memory, seen_by, takes_payload, Did, Open, Reply, Refused, BusTaken, Line, Picture, held_by, nothing_held, Situation, picture_of, reset, state_of, ConsultsCache, ConsultsMemory, ArrivesFor, IsAbsent, Asks, IsWithin, Responds, TakesFirst, GoesFirst, Invariant, get_or-set_same, Cell, Stalled, NoTransaction, Settles, Frame, FramesFrom, event_asked, lines_of_step, of_arrival_at_memory, of_ask, of_holder, of_memory, of_requestor, of_waiting_memory, refused_by, unless_i, FitsStep, HasAllLines, ShowsRows, HasTakenRows, Taken, Core, Memory, Evict, ◌≤◌, subst, lt-ltb, Contains, cases_eq, cases_lt, get_or_past, Contains-append_left, Contains-append_right, Contains-push, same_Some, of_core, DoesNothing}
use Rattle.snoop_rules.specs.{MemoryCell.MemoryCell, declared.names.{CacheAction.{CacheAction, TheVariants.Stall}, MemAction.MemAction}}
use Rattle.snoop_rules.specs.declared.names.MemAction.TheVariants as mem_action
use Rattle.snoop_model.proofs.{OneBlock.AfterMoves.{ask_line, order_here, respond_here}, Queues.keeps_well, Runs.GoOn.{IsSteady, reset_steady, steady_on}}
use Rattle.snoop_model.specs.Moves.Refuses.{Refuses}
use Rattle.snoop_engine.proofs.TakenLemmas.{goes_alike}

-- a stall leaves the state
stall_stays : (p : Protocol) (asking : Op) (s next : CacheState) → Cell p s (asked asking) Stall next → next ≡ s
stall_stays p asking s next h = grind (arith, common_steps)

-- what holds of the lines of a value holds where the value may be missing
all_if : {A : Type 0} (P : Taken → Type 0) (b : Bool) (v : A) (f : A → List Taken) → All P (f v) → All P (option_map_or f (if b then Some v else None) [])
all_if P true v f h = h
all_if P false v f h = All-nil P

all_one : (P : Taken → Type 0) (line : Taken) → P line → All P (line ∷ [])
all_one P line h = All-cons P line [] h (All-nil P)

all_unless_i : (P : Taken → Type 0) (s : CacheState) (line : Taken) → P line → All P (unless_i s line)
all_unless_i P I line h = All-nil P
all_unless_i P _ line h = all_one P line h

all_range : (P : Taken → Type 0) (f : ℕ → List Taken) (a n : ℕ) → ((k : ℕ) → k < a + n → All P (f k)) → All P (flat_map f (range_with_len a n))
all_range P f a zero each = All-nil P
all_range P f a (suc n) each =
    All-append P (f a) (flat_map f (range_with_len (a + 1) n)) (each a (omega arith)) (all_range P f (a + 1) n (λ k h. each k (omega arith)))

module _ (old new : Situation) (step : Step) (outcome : Result Reply Refused) where
  abbrev here : Frame
  here = record { step = step; outcome = outcome; before = old; after = new }

  -- an Ask's line
  asker_fits : (core block : ℕ) (asking : Op) (event : Option CacheEvent) → event_asked asking (state_of old core block) ≡ event
      → FitsStep here (Core core block event (state_of old core block)) → All (FitsStep here) (of_ask old core block asking)
  asker_fits core block asking event is line =
      all_if (FitsStep here) _ _ (λ before. Core core block (event_asked asking before) before ∷ []) (all_one (FitsStep here) _ (rw is line))

  module _ (block : ℕ) (first : TakesFirst old step block) where
    -- a core's line at its event
    row_fits : (core : ℕ) (event : CacheEvent) (act : CacheAction) (next : CacheState) → Cell old.protocol (state_of old core block) event act next
        → state_of new core block ≡ next
        → ConsultsCache old step core block (Some event) → FitsStep here (Core core block (Some event) (state_of old core block))
    row_fits core event act next row is looks = record { first = first; looks = looks; held = refl; action = act; row = rw is row }

    -- an Ask's line, where its core takes a row
    asked_fits : (core : ℕ) (asking : Op) (act : CacheAction) (next : CacheState) → Cell old.protocol (state_of old core block) (asked asking) act next
        → state_of new core block ≡ next
        → (event_asked asking (state_of old core block) ≡ Some (asked asking) → ConsultsCache old step core block (Some (asked asking)))
        → All (FitsStep here) (of_ask old core block asking)
    asked_fits core asking act next row is looks =
        let met : event_asked asking (state_of old core block) ≡ Some (asked asking) = grind (arith, common_steps) in
        asker_fits core block asking (Some (asked asking)) met (row_fits core (asked asking) act next row is (looks met))

    memory_fits : (event : MemEvent) (act : MemAction)
        → MemoryCell old.protocol (picture_of old block).memory.state event act (picture_of new block).memory.state
        → ConsultsMemory old step block (Some event) → All (FitsStep here) (of_memory old block event)
    memory_fits event act row looks =
        all_if (FitsStep here) _ _ (λ before. Memory block event before ∷ []) (all_one (FitsStep here) _ (record { first = first; looks = looks; held = refl; action = act; row = row }))

    -- the requestor's line at a Respond
    requestor_fits : (request : Request) (closing : Open) (did : Option Did) (next : Picture) → closing.core < length (picture_of old block).caches → picture_of new block ≡ next
        → ArrivesFor request closing old.protocol old.log (picture_of old block).caches next.caches did
        → (request ≢ PutM → (event : CacheEvent) → Some event ≡ arrival closing.payload → ConsultsCache old step closing.core block (Some event))
        → All (FitsStep here) (of_requestor request old block closing)
    requestor_fits PutM closing did next within now f looks = All-nil (FitsStep here)
    requestor_fits _ closing did next within now f looks =
        let is : state_of new closing.core block ≡ f.fills.row.next =
        grind (arith, common_steps, now, f.held, f.fills.held, get_or-set_same (picture_of old block).caches closing.core f.line nothing_held within) in
        rw f.fills.arrives
        (all_if (FitsStep here) _ _ (λ before. Core closing.core block (Some f.fills.event) before ∷ [])
        (all_one (FitsStep here) _ (row_fits closing.core f.fills.event f.fills.row.action f.fills.row.next f.fills.is_row is (looks (λ h. cc) f.fills.event (sym f.fills.arrives)))))

    -- and memory's
    settled_fits : (takes : Bool) (event : Option MemEvent) (act : MemAction)
        → MatchBool takes (IsSomeAnd event (λ e. MemoryCell old.protocol (picture_of old block).memory.state e act (picture_of new block).memory.state)) ((act ≡ mem_action.None) × ((picture_of new block).memory.state ≡ (picture_of old block).memory.state))
        → (takes ≡ true → ConsultsMemory old step block event) → All (FitsStep here) (if takes then of_arrival_at_memory old block event else [])
    settled_fits true None act h looks = absurd h
    settled_fits true (Some event) act h looks = memory_fits event act h (looks refl)
    settled_fits false event act h looks = All-nil (FitsStep here)

-- an Ask that is an event is looked up
asker_looks : (s : Situation) (core block word : ℕ) (asking : Op) → event_asked asking (state_of s core block) ≡ Some (asked asking) → ConsultsCache s (Ask core block word asking) core block (Some (asked asking))
asker_looks s core block word asking met = (refl, refl, (λ absent. let none = rw (absent.0, absent.1) at met in cc), refl)

-- the lines of a refused step
refused_fits : (old new : Situation) (step : Step) (cause : Refused) → Refuses old step cause → new ≡ old → All (FitsStep (here old new step (Err cause))) (refused_by old step cause)
refused_fits old new (Ask core block word asking) (Stalled held) refuses same =
    let next = refuses.2.0 in
    let stays = stall_stays old.protocol asking (state_of old core block) next refuses.2.1 in
    asked_fits old new (Ask core block word asking) (Err (Stalled held)) block tt core asking Stall next refuses.2.1 (rw same (sym stays)) (asker_looks old core block word asking)
refused_fits old new (Order core) (BusTaken block) refuses same =
    let P : Taken → Type 0 = FitsStep (here old new (Order core) (Err (BusTaken block))) in
    all_if P _ _ (λ before. Core core block None before ∷ []) (all_one P _ (record { before = refl; after = rw same }))
refused_fits old new (Respond block) NoTransaction refuses same = all_one (FitsStep (here old new (Respond block) (Err NoTransaction))) _ tt
refused_fits old new step cause refuses same = all_one (FitsStep (here old new step (Err cause))) _ tt

-- the lines of one step
step_fits : (old new : Situation) (step : Step) (outcome : Result Reply Refused) → Invariant old → GoesFirst old step outcome new → All (FitsStep (here old new step outcome)) (lines_of_step old step outcome)
step_fits old new step (Err cause) g goes = refused_fits old new step cause goes.0 goes.1
step_fits old new (Ask core block word asking) (Ok answer) g goes =
    let m = goes.1.1 in
    let within : IsWithin old core block = rw m.on_block m.within in
    let moves : IsAbsent old core block asking answer new ⊎ Asks old core block word asking answer new = rw m.on_block m.moves in
    elim moves [
      | inl absent ↦
          asker_fits old new (Ask core block word asking) (Ok answer) core block asking None (rw (absent.0, absent.1))
          (record { before = refl; after = rw absent.3 })
      | inr a ↦
          asked_fits old new (Ask core block word asking) (Ok answer) block tt core asking a.row.action a.row.next a.is_row
          (grind (arith, common_steps, ask_line old core block word asking answer new g within a, a.taken))
          (asker_looks old core block word asking)
    ]
step_fits old new (Order core) (Ok answer) g goes =
    let P : Taken → Type 0 = FitsStep (here old new (Order core) (Ok answer)) in
    let block : ℕ = goes.0 in
    let m = goes.1.1 in
    let o = m.orders in
    let wide = g.shaped.row block m.within.1 in
    let now : picture_of new block ≡ o.next = order_here old core block m.request new g m.within o in
    let holder : (k : ℕ) → k < 0 + old.shape.cores → All P (of_holder old core block m.request k) = λ k k_in.
    (let row = o.taken.rows k (omega arith) in
    all_if P _ _ (λ before. unless_i before (Core k block (Some (seen_by k core m.request)) before))
    (all_unless_i P (state_of old k block) _
    (row_fits old new (Order core) (Ok answer) block goes.1.0 k (seen_by k core m.request) row.0.action row.0.next row.1 (ap (λ (p : Picture). (held_by p k).state) now ∙ ap (λ (l : Line). l.state) row.2) (m.request, (o.ready, refl))))) in
    rw (goes.1.0, o.ready.0)
    (All-append P (flat_map (of_holder old core block m.request) (range_with_len 0 old.shape.cores)) (of_memory old block (at_memory m.request))
    (all_range P (of_holder old core block m.request) 0 old.shape.cores holder)
    (memory_fits old new (Order core) (Ok answer) block goes.1.0 (at_memory m.request) o.memory.0.action (rw (now, o.memory.2) o.memory.1) (m.request, (o.ready, refl))))
step_fits old new (Respond block) (Ok answer) g goes =
    let P : Taken → Type 0 = FitsStep (here old new (Respond block) (Ok answer)) in
    let m = goes.1.1 in
    let closing : Open = m.closing in
    let within : block < old.shape.blocks = rw m.on_block m.within in
    let r : Responds old block closing m.did new = rw m.on_block m.responds in
    let now : picture_of new block ≡ r.next = respond_here old block closing m.did new g within r in
    let core_in = (g.blocks block within).requestor_in closing r.opened in
    let long = g.shaped.row block within in
    let settled : Settles old.protocol closing.request closing.payload (picture_of old block).memory.state r.memory.act (picture_of new block).memory.state = rw now r.memory.settled in
    rw r.opened
    (All-append P (of_requestor closing.request old block closing) (of_waiting_memory old block closing)
    (requestor_fits old new (Respond block) (Ok answer) block tt closing.request closing m.did r.next (omega arith) now r.requestor (λ other event comes. (closing, (refl, r.opened, refl, other, comes))))
    (all_if P _ _ (λ before. if takes_payload closing.request before then of_arrival_at_memory old block (arrival_at_memory closing.payload) else [])
    (settled_fits old new (Respond block) (Ok answer) block tt (takes_payload closing.request (picture_of old block).memory.state) (arrival_at_memory closing.payload) r.memory.act settled (λ takes. (closing, (refl, r.opened, takes, refl))))))

-- a row is listed
has_in_range : (f : ℕ → List Taken) (line : Taken) (a n k : ℕ) → a ≤ k → k < a + n → Contains (f k) line → Contains (flat_map f (range_with_len a n)) line
has_in_range f line a zero k low high has = absurd (omega arith)
has_in_range f line a (suc n) k low high has = elim (cases_eq k a) [
  | inl e ↦ Contains-append_left (f a) (flat_map f (range_with_len (a + 1) n)) line (subst (λ (j : ℕ). Contains (f j) line) e has)
  | inr ne ↦ Contains-append_right (f a) (flat_map f (range_with_len (a + 1) n)) line (has_in_range f line (a + 1) n k (omega arith) (omega arith) has)
]

has_unless_i : (requestor : ℕ) (s : CacheState) (line : Taken) → (DoesNothing (Order requestor) s → ⊥) → Contains (unless_i s line) line
has_unless_i requestor s line h = grind (arith, common_steps, Contains-push [] line)

event_unless : (asking : Op) (s : CacheState) → ((asking ≡ Evict) × (s ≡ I) → ⊥) → event_asked asking s ≡ Some (asked asking)
event_unless asking s h = grind (arith, common_steps)

module _ (s : Situation) where
  core_listed : (core block : ℕ) (event : CacheEvent) → core < s.shape.cores → block < s.shape.blocks → Contains (of_core s core block (Some event)) (Core core block (Some event) (state_of s core block))
  core_listed core block event x y = rw (lt-ltb core s.shape.cores x, lt-ltb block s.shape.blocks y) (Contains-push [] _)

  memory_listed : (block : ℕ) (event : MemEvent) → block < s.shape.blocks → Contains (of_memory s block event) (Memory block event (picture_of s block).memory.state)
  memory_listed block event y = rw (lt-ltb block s.shape.blocks y) (Contains-push [] _)

  -- a core that holds something is there
  holder_in : Invariant s → (requestor core block : ℕ) → block < s.shape.blocks → (DoesNothing (Order requestor) (state_of s core block) → ⊥) → core < s.shape.cores
  holder_in g requestor core block y held = elim (cases_lt core s.shape.cores) [
    | inl x ↦ x
    | inr past ↦
        let long = g.shaped.row block y in
        let idle : state_of s core block ≡ I = ap (λ (l : Line). l.state) (get_or_past (picture_of s block).caches core nothing_held (omega arith)) in
        absurd (held (subst (DoesNothing (Order requestor)) (sym idle) tt))
  ]

  requestor_listed : (request : Request) (block : ℕ) (closing : Open) (event : CacheEvent) → (request ≡ PutM → ⊥) → closing.core < s.shape.cores → block < s.shape.blocks → Some event ≡ arrival closing.payload
      → Contains (of_requestor request s block closing) (Core closing.core block (Some event) (state_of s closing.core block))
  requestor_listed request block closing event other x y comes = grind (arith, common_steps, core_listed closing.core block event x y)

  -- the row of an Ask
  asker_listed : (asker on word : ℕ) (asking : Op) → IsWithin s asker on → (core block : ℕ) (event : CacheEvent) → ConsultsCache s (Ask asker on word asking) core block (Some event)
      → Contains (of_ask s asker on asking) (Core core block (Some event) (state_of s core block))
  asker_listed asker on word asking within core block event looks =
      rw (same_Some _ _ looks.3, looks.0, looks.1, lt-ltb asker s.shape.cores within.0, lt-ltb on s.shape.blocks within.1, ← event_unless asking (state_of s asker on) (rw (looks.0, looks.1) at looks.2))
      (Contains-push [] _)

-- where a step is taken, each row that a core looks up is listed, and each of memory's
all_listed : (s new : Situation) (step : Step) (answer : Reply) → Invariant s → GoesFirst s step (Ok answer) new → HasAllLines (record { step = step; outcome = Ok answer; before = s; after = new })
all_listed s new (Ask asker on word asking) answer g goes = record {
  cores = λ core block event first looks held. asker_listed s asker on word asking (subst (λ (b : ℕ). IsWithin s asker b) (sym goes.1.1.on_block) goes.1.1.within) core block event looks;
  memory = λ block event first looks. absurd looks;
}
all_listed s new (Order requestor) answer g goes =
    let within : (block : ℕ) → TakesFirst s (Order requestor) block → block < s.shape.blocks = λ block first. rw (same_Some _ _ (sym goes.1.0 ∙ first)) at goes.1.1.within.1 in
    record {
      cores = λ core block event first looks held.
          let y = within block first in
          let x = holder_in s g requestor core block y held in
          rw (same_Some _ _ looks.1.1, first, looks.1.0.0)
          (Contains-append_left (flat_map (of_holder s requestor block looks.0) (range_with_len 0 s.shape.cores)) (of_memory s block (at_memory looks.0)) _
          (has_in_range (of_holder s requestor block looks.0) _ 0 s.shape.cores core (omega arith) (omega arith)
          (rw (lt-ltb core s.shape.cores x, lt-ltb block s.shape.blocks y) (has_unless_i requestor (state_of s core block) _ held))));
      memory = λ block event first looks.
          rw (same_Some _ _ looks.1.1, first, looks.1.0.0)
          (Contains-append_right (flat_map (of_holder s requestor block looks.0) (range_with_len 0 s.shape.cores)) (of_memory s block (at_memory looks.0)) _
          (memory_listed s block (at_memory looks.0) (within block first)));
    }
all_listed s new (Respond on) answer g goes =
    let y : on < s.shape.blocks = rw goes.1.1.on_block goes.1.1.within in
    record {
      cores = λ core block event first looks held.
          let opened : (picture_of s on).transaction ≡ Some looks.0 = rw (← looks.1.0) looks.1.1 in
          rw (looks.1.2, looks.1.0, opened)
          (Contains-append_left (of_requestor looks.0.request s on looks.0) (of_waiting_memory s on looks.0) _
          (requestor_listed s looks.0.request on looks.0 event looks.1.3 ((g.blocks on y).requestor_in looks.0 opened) y looks.1.4));
      memory = λ block event first looks.
          let opened : (picture_of s on).transaction ≡ Some looks.0 = rw (← looks.1.0) looks.1.1 in
          let takes : takes_payload looks.0.request (picture_of s on).memory.state ≡ true = rw (← looks.1.0) looks.1.2 in
          rw (looks.1.0, opened)
          (Contains-append_right (of_requestor looks.0.request s on looks.0) (of_waiting_memory s on looks.0) _ (rw (lt-ltb on s.shape.blocks y, takes, ← looks.1.3) (memory_listed s on event y)));
    }

-- none is left out
step_whole : (old new : Situation) (step : Step) (outcome : Result Reply Refused) → Invariant old → GoesFirst old step outcome new → HasTakenRows outcome → HasAllLines (here old new step outcome)
step_whole old new step (Ok answer) g goes takes = all_listed old new step answer g goes
step_whole old new (Ask asker on word asking) (Err (Stalled state)) g goes takes = record {
  cores = λ core block event first looks held. asker_listed old asker on word asking goes.0.0 core block event looks;
  memory = λ block event first looks. absurd looks;
}
step_whole old new _ (Err (Stalled state)) g goes takes = absurd goes.0
step_whole old new step (Err cause) g goes takes = absurd takes

-- the frames of a run from a steady machine
frames_show : (frames : List Frame) (old new : Situation) → IsSteady old → FramesFrom old frames new → All ShowsRows frames
frames_show [] old new steady run = All-nil ShowsRows
frames_show (f ∷ fs) old new steady run =
    let from : IsSteady f.before = rw run.0.before steady in
    let goes = run.0.goes in
    All-cons ShowsRows f fs (record { stays = (goes_alike f.before f.step f.outcome f.after goes).0; fit = step_fits f.before f.after f.step f.outcome from.0 goes; all = step_whole f.before f.after f.step f.outcome from.0 goes })
    (frames_show fs f.after new (steady_on keeps_well f.before f.step f.outcome f.after from goes) run.1)

-- the frames of a run from reset
pub lines_fit : (protocol : Protocol) (shape : Extent) (frames : List Frame) (final : Situation) → FramesFrom (reset protocol shape) frames final → All ShowsRows frames
lines_fit protocol shape frames final run = frames_show frames (reset protocol shape) final (reset_steady protocol shape) run
