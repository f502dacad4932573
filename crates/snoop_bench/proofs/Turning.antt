-- Works under way: the places that they have, the step of each turn, and that each turn keeps them.
use Rattle.std.proofs.Common.{◌≡◌, ◌≢◌, ◌⊎◌, ⊎_elim, ℕ, zero, suc, ◌<◌, inl, inr, Bool, true, false, List, [], ◌∷◌, length, map, replicate, Option, Some, None, Ok, refl, sym, ap, ◌∙◌, append-nil, arith}
use Rattle.snoop_bench.proofs.Common.{Access, access_of, answers_after, answers_of, AreUnderWay, Ask, asked_access, Case, case_of, case_under_way, cases_eq, common_steps, Contains, did_access, ends, eq-eqb, Extent, filter, FirstMove, gets, helps, if◌then◌else◌, is_some, IsOwed, IsReadableStep, IsWellKept, Locked, none-some, of_core, OnceMore, one_or_none, Op, Open, option_map, Order, orders, over, owed_after, performed_by, picture_of, Recording, Reply, Request, reset, Respond, Situation, slice_set, state_of, Step, step_under_way, TakesAndPublishes, turn_of, TurnLaws, waited_or_asked, waiting_request, Work, work_at, works_asked, works_under_way, ◌==◌}
use Rattle.std.proofs.lemmas.{Bool.Decides.nat_tests, List.{length-set, length-replicate}}
use Rattle.snoop_trace.specs.{Words.HasWord, declared.protocol.Protocol.Protocol}
use Rattle.snoop_trace.specs.declared.step.Op.TheVariants as op
use Rattle.snoop_model.{specs.{declared.replies.Refused.Refused, Turns.Serving.IsUnderWay, Moves.Refuses.Refuses}, proofs.Invariant.Runs.reset_line}
use Rattle.snoop_model.specs.declared.replies.Reply.TheVariants as reply
use Rattle.snoop_model.{proofs.{OneBlock.AfterMoves.{in_pictures, picture_here}, Turns.has_step}, specs.Pictures.Picture.{held_by, Picture}}
use Rattle.snoop_bench.specs.Faults.{IsInside}
use Rattle.snoop_model.proofs.Queues.{arrives_waits}

-- the block of a work, if there is one
pub its_block : (o p : Option Work) → o ≡ p → option_map (λ work. work.block) o ≡ option_map (λ work. work.block) p
its_block o p same = ap (λ (x : Option Work). option_map (λ work. work.block) x) same

-- the changed place holds the new work
pub changed : (works : List (Option Work)) (core : ℕ) (work : Option Work) → core < length works → work_at (slice_set works core work) core ≡ work
changed works core work inside = grind (arith, common_steps, gets)

-- the other places are as before
pub unchanged : (works : List (Option Work)) (core other : ℕ) (work : Option Work) → other ≢ core
    → work_at (slice_set works core work) other ≡ work_at works other
unchanged works core other work apart = grind (arith, common_steps, gets)

-- the place of an idle core, once it held a work, is idle again without it
pub put_out : (works : List (Option Work)) (core : ℕ) (work : Option Work) → work_at works core ≡ None → slice_set (slice_set works core work) core None ≡ works
put_out [] core work idle = refl
put_out (x ∷ works) zero work idle = ap (λ o. o ∷ works) (sym idle)
put_out (x ∷ works) (suc core) work idle = ap (λ l. x ∷ l) (put_out works core work idle)

-- a core with a work under way has a place
pub has_place : (works : List (Option Work)) (core : ℕ) (work : Work) → work_at works core ≡ Some work → core < length works
has_place works core work its = grind (arith, gets)

-- the case, whether a request waits in it, and the step that is taken
pub data IsCase (core block : ℕ) : Case → Bool → Option Step → Type 0 where
  ordering : IsCase core block orders true (Some (Order core))
  helping : IsCase core block helps true (Some (Respond block))
  ending : IsCase core block ends false (Some (Respond block))
  closed : IsCase core block over false None

case_is : (w : Option Request) (o : Option Open) (core block : ℕ) → IsCase core block (case_under_way w o core) (is_some w) (step_under_way w o core block)
case_is (Some request) None core block = ordering
case_is (Some request) (Some transaction) core block = helping
case_is None None core block = closed
case_is None (Some transaction) core block = by_core (transaction.core == core)
  where
    by_core : (own : Bool) → IsCase core block (if own then ends else over) false (if own then Some (Respond block) else None)
    by_core true = ending
    by_core false = closed

-- the case of a turn whose work is under way, by whether its request waits and by its step
pub at_case : (s : Situation) (core block word : ℕ) (asking : Op) {waits : Bool} {step : Option Step}
    → is_some (waiting_request (state_of s core block)) ≡ waits → turn_of s core block word asking true ≡ step
    → IsCase core block (case_of s core block true) waits step
at_case s core block word asking e f = rw (← e, ← f) (case_is (waiting_request (state_of s core block)) (picture_of s block).transaction core block)

-- the step is one that is read again from its text
pub turn_within : {core block : ℕ} {k : Case} {waits : Bool} {step : Step} (shape : Extent) → core < shape.cores → block < shape.blocks
    → IsCase core block k waits (Some step) → IsReadableStep shape step
turn_within shape c b ordering = c
turn_within shape c b helping = b
turn_within shape c b ending = b

-- a step of the machine, as its clauses report it
pub record Stepped (s t : Situation) (step : Step) (answer : Reply) : Type 0 where
  pub move : FirstMove s step answer t
  pub once : OnceMore s (step ∷ []) (Ok answer ∷ []) t
  pub shape : t.shape ≡ s.shape
  pub kept : IsWellKept t

-- the same from a step that was recorded
pub stepped : TurnLaws → {p q : Recording} {step : Step} {answer : Reply} → IsWellKept p.situation → TakesAndPublishes step answer p q
    → OnceMore p.situation (step ∷ []) (Ok answer ∷ []) q.situation → q.situation.shape ≡ p.situation.shape → Stepped p.situation q.situation step answer
stepped rule {p} {q} {step} {answer} well took once shape = record {
  move = took.move;
  once = once;
  shape = shape;
  kept = rule.keeps_well p.situation q.situation step answer well took.move;
}

-- the step asks no load or store of the core's cache
abbrev pub AsksNothing : ℕ → Step → Type 0
AsksNothing core step = (block : ℕ) → asked_access core block step ≡ None

module _ {s t : Situation} {step : Step} {answer : Reply} (m : Stepped s t step answer) (core : ℕ) where
  -- the operation of a work under way stays owed while its core asks nothing
  pub owed_still : (works : List (Option Work)) (work : Work) → AreUnderWay works s → work_at works core ≡ Some work → AsksNothing core step
      → IsOwed s core work.block (access_of work) → IsOwed t core work.block (access_of work)
  owed_still works work u its nothing (inl waits) = owed_after s t step answer m.move m.once core work.block (access_of work) (inl waits)
  owed_still works work u its nothing (inr last) = elim (one_or_none core (performed_by s t step answer m.move)) [
    | inl none ↦ inr (last.0, rw (answers_after s t step answer m.move m.once core work.block (access_of work), none, append-nil (answers_of s.log core)) last.1, last.2, last.3)
    | inr (d, is) ↦
        let did : Contains (map did_access (filter (λ x. x.block == d.block) (of_core core (performed_by s t step answer m.move)))) (did_access d) =
        rw (is, eq-eqb d.block d.block refl) (zero, omega arith, refl) in
        elim (waited_or_asked s t step answer m.move m.once core d.block (did_access d) (inl did)) [
          | inl waits ↦
              let there = u.waiting core d.block (did_access d) waits in
              let same : work ≡ record { block = d.block; word = d.word; op = (did_access d).op } = cc in
              owed_after s t step answer m.move m.once core work.block (access_of work) (inl (rw same waits))
          | inr asked ↦ absurd (none-some (did_access d) (sym (nothing d.block) ∙ asked))
        ]
  ]

-- the core and the block are within the shape, and so is the word that is loaded or stored
abbrev pub IsWithin : Situation → ℕ → Work → Type 0
IsWithin s core work = (core < s.shape.cores) × (work.block < s.shape.blocks) × HasWord s.shape work.word work.op

-- the works after a step: those under way stay, and each new one is asked by the step
record GoOn (works after : List (Option Work)) (step : Step) : Type 0 where
  pub places : length after ≡ length works
  pub stay : (core : ℕ) (work : Work) → work_at works core ≡ Some work → work_at after core ≡ Some work
  pub under : IsUnderWay (works_under_way after) step
  pub asked : (core block : ℕ) (wanted : Access) → asked_access core block step ≡ Some wanted
      → work_at after core ≡ Some (record { block = block; word = wanted.word; op = wanted.op })
  pub new : (core : ℕ) (work : Work) → work_at after core ≡ Some work → work.op ≢ op.Evict
      → ((work_at works core ≡ Some work) × AsksNothing core step) ⊎ (asked_access core work.block step ≡ Some (access_of work))

-- the block of a work that stays
block_stays : (before after : Option Work) (block : ℕ) → ((work : Work) → before ≡ Some work → after ≡ Some work)
    → option_map (λ work. work.block) before ≡ Some block → option_map (λ work. work.block) after ≡ Some block
block_stays before after block stay e = grind arith

goes_on : TurnLaws → {s t : Situation} {step : Step} {answer : Reply} (m : Stepped s t step answer) (works after : List (Option Work)) → AreUnderWay works s
    → GoOn works after step → AreUnderWay after t
goes_on rule {s} {t} {step} {answer} m works after u g = record {
  places = rw m.shape (g.places ∙ u.places);
  serving = rule.serves_on s t (works_under_way works) (works_under_way after) step answer u.serving m.move
      (λ core block. block_stays (work_at works core) (work_at after core) block (g.stay core)) g.under;
  waiting = λ core block wanted waits.
      ⊎_elim (λ was. g.stay core _ (u.waiting core block wanted was)) (g.asked core block wanted)
      (waited_or_asked s t step answer m.move m.once core block wanted (inr waits));
  owed = λ core work its isnt.
      ⊎_elim (λ was. owed_still m core works work u was.0 was.1 (u.owed core work was.0 isnt))
      (λ asked. rule.owes s t step answer m.move m.once core work.block (access_of work) (inr asked)) (g.new core work its isnt);
}

-- the step of a work under way is no load or store that is asked
unasked : (works : List (Option Work)) {core block : ℕ} {k : Case} {waits : Bool} {step : Step} → IsCase core block k waits (Some step)
    → ((c : ℕ) → AsksNothing c step) × IsUnderWay (works_under_way works) step
unasked works ordering = (λ c block. refl, tt)
unasked works _ = (λ c block. refl, tt)

-- so it keeps the works
pub serving_step : TurnLaws → {s t : Situation} {step : Step} {answer : Reply} {core block : ℕ} {k : Case} {waits : Bool} → Stepped s t step answer
    → (works : List (Option Work)) → AreUnderWay works s → IsCase core block k waits (Some step) → AreUnderWay works t
serving_step rule m works u is =
    let none = unasked works is in
    goes_on rule m works works u (record {
      places = refl;
      stay = λ core work its. its;
      under = none.1;
      asked = λ core block wanted e. absurd (none-some wanted (sym (none.0 core block) ∙ e));
      new = λ core work its isnt. inl (its, none.0 core);
    })

-- a core with a work under way, at the turn of this step, if any
pub record Facing (s : Situation) (works : List (Option Work)) (core : ℕ) (work : Work) (step : Option Step) : Type 0 where
  pub under : AreUnderWay works s
  pub well : IsWellKept s
  pub inside : IsWithin s core work
  pub its : work_at works core ≡ Some work
  pub step_is : turn_of s core work.block work.word work.op true ≡ step

-- as a call of the bench has it
pub facing : {b now : Locked} → b ≡ now → (core : ℕ) (work : Work) {step : Option Step} → AreUnderWay b.works b.situation → IsWellKept b.situation
    → IsInside core work now → work_at now.works core ≡ Some work
    → turn_of now.situation core work.block work.word work.op true ≡ step → Facing b.situation b.works core work step
facing same core work under well inside its is = record { under = under; well = well; inside = rw same inside; its = rw same its; step_is = rw same is }

module _ (rule : TurnLaws) {s : Situation} {works : List (Option Work)} {core : ℕ} {work : Work} where
  -- no cause refuses the step of the turn
  pub never : {step : Step} → Facing s works core work (Some step) → (cause : Refused) → ¬ Refuses s step cause
  never {step} f =
      rule.never_refused s (works_under_way works) core work.block work.word work.op true step
      f.under.serving f.well f.inside.0 f.inside.1 f.inside.2 (its_block _ _ f.its) f.step_is

  -- where no step is left the core gives the work up
  pub over_keeps : Facing s works core work None → AreUnderWay (slice_set works core None) s
  over_keeps f = record {
    places = length-set works core None ∙ f.under.places;
    serving = rule.ends s (works_under_way works) (works_under_way (slice_set works core None)) core work.block work.word work.op
        f.under.serving f.well (its_block _ _ f.its) f.step_is (λ other h. its_block _ _ (unchanged works core other None h));
    waiting = λ c block wanted waits.
        let there = f.under.waiting c block wanted waits in
        let other : c ≢ core = λ same.
        let mine : block ≡ work.block = cc (same, there, f.its) in
        has_step s c block work.word work.op wanted f.well waits (rw (same, mine) f.step_is) in
        unchanged works core c None other ∙ there;
    owed = λ c w theirs isnt.
        let empty = changed works core None (has_place works core work f.its) in
        let other : c ≢ core = λ same. cc in
        f.under.owed c w (sym (unchanged works core c None other) ∙ theirs) isnt;
  }

-- after the response a core that does not wait has no step left for its work
closed_after : (s t : Situation) (core block word : ℕ) (asking : Op) (answer : Reply) → IsWellKept s
    → waiting_request (state_of s core block) ≡ None → FirstMove s (Respond block) answer t → turn_of t core block word asking true ≡ None
closed_after s t core block word asking answer kept none (b, (first, m)) =
    let r = m.responds in
    let there : picture_of t b ≡ r.next = rw r.after (picture_here s b r.next s.queues s.log (in_pictures s b kept.shaped m.within)) in
    let free : (picture_of t b).transaction ≡ None = rw there r.closed in
    let waits : waiting_request (state_of t core b) ≡ None =
    ap (λ (x : Picture). waiting_request (held_by x core).state) there
    ∙ arrives_waits m.closing s.protocol s.log (picture_of s b).caches r.next.caches m.did r.requestor core ∙ (rw m.on_block at none) in
    rw (m.on_block, waits, free) refl

-- the response for the core's own transaction: its work has no step left
pub finished : TurnLaws → {s t : Situation} {works : List (Option Work)} {core : ℕ} {work : Work} {k : Case} {step : Step} {answer : Reply}
    → IsCase core work.block k false (Some step) → Facing s works core work (Some step)
    → false ≡ is_some (waiting_request (state_of s core work.block)) → Stepped s t step answer → Facing t works core work None
finished rule {s} {t} {works} {core} {work} {k} {step} {answer} ending f waits m = record {
  under = serving_step rule {core = core} m works f.under ending;
  well = m.kept;
  inside = rw m.shape f.inside;
  its = f.its;
  step_is = closed_after s t core work.block work.word work.op answer f.well (grind (arith, waits)) m.move;
}

-- what an Ask asks is the operation of the work
asked_work : (core c block : ℕ) (wanted : Access) (work : Work) → asked_access c block (Ask core work.block work.word work.op) ≡ Some wanted
    → (core ≡ c) × (work.block ≡ block) × (record { word = work.word; op = work.op } ≡ wanted)
asked_work core c block wanted work e = grind (arith, nat_tests)

asks_its : (core : ℕ) (work : Work) → work.op ≢ op.Evict → asked_access core work.block (Ask core work.block work.word work.op) ≡ Some (access_of work)
asks_its core work isnt = grind (arith, nat_tests)

-- a core with nothing under way asks
module _ (rule : TurnLaws) (works : List (Option Work)) (core : ℕ) (work : Work) {s t : Situation} {answer : Reply}
    (u : AreUnderWay works s) (idle : work_at works core ≡ None) (inside : IsWithin s core work)
    (m : Stepped s t (Ask core work.block work.word work.op) answer) where
  abbrev begun : List (Option Work)
  begun = slice_set works core (Some work)

  its : work_at begun core ≡ Some work
  its = changed works core (Some work) (omega (arith, u.places, inside.0))

  -- one that issued a request has its work under way
  issued_keeps : AreUnderWay begun t
  issued_keeps = goes_on rule m works begun u (record {
    places = length-set works core (Some work);
    stay = λ c w busy. unchanged works core c (Some work) (λ same. cc) ∙ busy;
    under = its_block _ _ its;
    asked = λ c block wanted e.
        let (own, at, same) = asked_work core c block wanted work e in
        rw (← own, ← at, ← same) its;
    new = λ c w theirs isnt. elim (cases_eq c core) [
      | inl same ↦
          let there : work_at begun core ≡ Some w = rw same at theirs in
          let mine : work ≡ w = cc its in
          inr (rw (same, mine) (asks_its core w isnt))
      | inr other ↦ inl (sym (unchanged works core c (Some work) other) ∙ theirs, λ block. grind (arith, nat_tests))
    ];
  })

  -- one that issued none has no step left, and so nothing under way
  ended_keeps : ((request : Request) → answer ≢ reply.Issued request) → AreUnderWay works t
  ended_keeps none =
      let ended = rule.ends_at_once s t (works_under_way works) core work.block work.word work.op answer u.serving (its_block _ _ idle) m.kept m.move none in
      rw (put_out works core (Some work) idle) at
      (over_keeps rule (record { under = issued_keeps; well = m.kept; inside = rw m.shape inside; its = its; step_is = ended }))

  -- the works after an Ask, whatever its reply
  pub asked_keeps : AreUnderWay (works_asked answer works core work) t
  asked_keeps = by_answer answer refl
    where
      by_answer : (given : Reply) → answer ≡ given → AreUnderWay (works_asked given works core work) t
      by_answer (reply.Issued request) same = issued_keeps
      by_answer given same = ended_keeps (λ request e. cc)

-- at reset nothing is under way, and nothing waits
pub reset_under_way : TurnLaws → (protocol : Protocol) (shape : Extent) → AreUnderWay (replicate shape.cores None) (reset protocol shape)
reset_under_way rule protocol shape = record {
  places = length-replicate shape.cores None;
  serving = (rule.starts_well protocol shape (works_under_way (replicate shape.cores None))).1;
  waiting = λ core block wanted waits.
      absurd (none-some wanted (rw (reset_line protocol shape core block) at waits));
  owed = λ core work its isnt. absurd (grind (arith, common_steps, gets));
}
