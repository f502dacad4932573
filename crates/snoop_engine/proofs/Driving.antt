-- What a turn of a driver gives, and a round of turns.
use Rattle.snoop_engine.proofs.Common.{IsQuietFor, none-some, queue_of, nat_tests, ◌≡◌, ◌≢◌, ℕ, ◌<◌, true, false, Option, Some, None, refl, sym, ◌∙◌, ap, inl, inr, cond, eqb, arith, get_or, Contains, IfSome, IfNone, slice_set, List, ◌∷◌, length, cases_eq, get_or_default, All-head, All-nil, All-tail, Step, Ask, Reply, FirstMove, Situation, Work, turn_of, IsUnderWay, turn_rule, eq-eqb, ne_eqb, length-set, get_or-set_same, get_or-set_other, Todo, todo_of, nothing_to_do, lanes_under_way, block_of_work, IsOver, IsEnabled, IsFit, IsIdle, IsTodoWithin, IsWorkWithin, TakesUp, [], ◌++◌, take, drop, slice_get, All-append, Contains-append_cases, Contains-append_left, Contains-append_right, IsQuiet, take-append-drop, All-take, All-drop, IsServing}
use Rattle.snoop_engine.proofs.TakenLemmas.{same_shape}
use Rattle.snoop_model.proofs.Queues.{waits_queued}
use Rattle.std.proofs.lemmas.List.Elements.{All-contains}

module _ {s : Situation} {lanes : List Todo} {turns : List ℕ} (fit : IsFit s lanes turns) {core : ℕ} (has_core : core < s.shape.cores) where
  has_lane : core < length lanes
  has_lane = let cores = fit.cores in omega arith

  -- the lane that is put at the core's place, and the others
  pub lane_put : (lane : Todo) → todo_of (slice_set lanes core lane) core ≡ lane
  lane_put lane = get_or-set_same lanes core lane nothing_to_do has_lane

  pub lane_apart : (lane : Todo) (k : ℕ) → k ≢ core → todo_of (slice_set lanes core lane) k ≡ todo_of lanes k
  lane_apart lane k ne = get_or-set_other lanes core k lane nothing_to_do ne

  -- a core with nothing under way may have anything else
  pub over_idle : (todo_of lanes core).work ≡ None → IsOver lanes s core
  over_idle idle after others =
      let extends : (k block : ℕ) → lanes_under_way lanes k ≡ Some block → after k ≡ Some block = λ k block h. grind (arith, idle, others k) in
      record { waits = λ k i d lt. extends k _ (fit.serving.waits k i d lt); opened = λ block o is. extends o.core block (fit.serving.opened block o is) }

  -- the lane that is read at the core's place
  module _ {lane : Todo} (read : lane ≡ get_or lanes core lane) where
    is : todo_of lanes core ≡ lane
    is = get_or_default lanes core nothing_to_do lane has_lane ∙ sym read

    module _ {work : Work} (works : lane.work ≡ Some work) where
      its_block : lanes_under_way lanes core ≡ Some work.block
      its_block = rw (is, works)

      pub goes_on : (r : Option Step) → r ≡ turn_of s core work.block work.word work.op true → IfSome r (IsEnabled s)
      goes_on None found = tt
      goes_on (Some step) found =
          let within : IsWorkWithin s work = rw (is, works) at (fit.within core).work in
          turn_rule.never_refused s (lanes_under_way lanes) core work.block work.word work.op true step fit.serving fit.kept has_core within.0 within.1 its_block (sym found)

      pub over_now : (r : Option Step) → r ≡ turn_of s core work.block work.word work.op true → IfNone r (IsOver lanes s core)
      over_now (Some step) found = tt
      over_now None found = λ after others. turn_rule.ends s (lanes_under_way lanes) after core work.block work.word work.op fit.serving fit.kept its_block (sym found) others

    pub first_in : {work : Work} {rest : List Work} → lane.left ≡ work ∷ rest → IsWorkWithin s work
    first_in {work} {rest} first = All-head (IsWorkWithin s) work rest (rw (is, first) at (fit.within core).left)

  -- no request of a core whose work is over waits or is open
  pub quiet_over : IsOver lanes s core → IsQuietFor s core
  quiet_over over =
      let bare : ℕ → Option ℕ = λ k. cond {A = Option ℕ} (eqb k core) None (lanes_under_way lanes k) in
      let serving = over bare (λ other ne. rw (ne_eqb other core ne)) in
      let here : bare core ≡ None = rw (eq-eqb core core refl) in
      record {
        ordered = λ block request waits. none-some block (sym here ∙ All-contains (λ b. bare core ≡ Some b) (queue_of s.queues core) block (serving.waits core) (waits_queued s fit.kept.queued core block request waits));
        closed = λ block request has. none-some block (sym here ∙ (rw has.1.1 at (serving.opened block has.0 has.1.0)));
      }

  module _ (over : IsOver lanes s core) (next : Todo) where
    -- a core with a turn may have any other lane, once its work is over
    fit_lane : Contains turns core → IsTodoWithin s next → IsFit s (slice_set lanes core next) turns
    fit_lane turn within = record {
      cores = length-set lanes core next ∙ fit.cores;
      within = λ k. elim (cases_eq k core) [ inl e ↦ rw (e, lane_put next) within | inr ne ↦ rw (lane_apart next k ne) (fit.within k) ];
      serving = over (lanes_under_way (slice_set lanes core next)) (λ other ne. ap (λ (t : Todo). block_of_work t.work) (lane_apart next other ne));
      kept = fit.kept;
      few = fit.few;
      busy = λ k. elim (cases_eq k core) [ inl e ↦ inl (rw e turn) | inr ne ↦ rw (lane_apart next k ne) (fit.busy k) ];
    }

    pub fit_idles : Contains turns core → IsIdle next → IsFit s (slice_set lanes core next) turns
    fit_idles turn idle = fit_lane turn (record { left = rw idle.0 (All-nil (IsWorkWithin s)); work = rw idle.1 tt })

    -- the first work of its lane is taken up
    module _ {lane : Todo} (read : lane ≡ get_or lanes core lane) {work : Work} (first : lane.left ≡ work ∷ next.left) where
      pub fit_begins : Contains turns core → next.work ≡ Some work → IsFit s (slice_set lanes core next) turns
      fit_begins turn its = fit_lane turn (record {
        left = All-tail (IsWorkWithin s) work next.left (rw (is read, first) at (fit.within core).left);
        work = rw its (first_in read first);
      })

      pub goes_begun : (r : Option Step) → r ≡ Some (Ask core work.block work.word work.op) → IfSome r (IsEnabled s)
      goes_begun r asks =
          let within = first_in read first in
          let bare : ℕ → Option ℕ = λ k. cond {A = Option ℕ} (eqb k core) None (lanes_under_way lanes k) in
          let away : (other : ℕ) → other ≢ core → bare other ≡ lanes_under_way lanes other = λ other ne. rw (ne_eqb other core ne) in
          let here : bare core ≡ None = rw (eq-eqb core core refl) in
          rw asks (turn_rule.never_refused s bare core work.block work.word work.op false (Ask core work.block work.word work.op) (over bare away) fit.kept has_core within.0 within.1 here refl)

      pub takes_first : (r : Option Step) → r ≡ Some (Ask core work.block work.word work.op) → IfSome r (λ step. TakesUp lanes step (slice_set lanes core next))
      takes_first r asks = rw asks (λ k. grind (arith, nat_tests, lane_put next, is read, first, lane_apart next k))

-- a move keeps what holds between turns
pub fit_moves : {s : Situation} {lanes : List Todo} {turns : List ℕ} → IsFit s lanes turns → (t : Situation) (step : Step) (answer : Reply)
    → IsUnderWay (lanes_under_way lanes) step → FirstMove s step answer t → IsFit t lanes turns
fit_moves {s} {lanes} fit t step answer its move =
    let e = same_shape s t step answer move in
    record {
      cores = rw e fit.cores;
      within = λ core. record { left = rw e (fit.within core).left; work = rw e (fit.within core).work };
      serving = turn_rule.serves_on s t (lanes_under_way lanes) (lanes_under_way lanes) step answer fit.serving move (λ k b h. h) its;
      kept = turn_rule.keeps_well s t step answer fit.kept move;
      few = rw e fit.few;
      busy = fit.busy;
    }

module _ {s : Situation} {lanes : List Todo} {turns : List ℕ} (fit : IsFit s lanes turns) where
  -- the first turn may come last
  pub fit_rotated : IsFit s lanes (drop 1 turns ++ take 1 turns)
  fit_rotated =
      let P : ℕ → Type 0 = λ core. core < s.shape.cores in
      record {
        cores = fit.cores;
        within = fit.within;
        serving = fit.serving;
        kept = fit.kept;
        few = All-append P (drop 1 turns) (take 1 turns) (All-drop P 1 turns fit.few) (All-take P 1 turns fit.few);
        busy = λ core. elim (fit.busy core) [
          | inl there ↦ inl (elim (Contains-append_cases (take 1 turns) (drop 1 turns) core (rw (take-append-drop 1 turns) there)) [
            | inl first ↦ Contains-append_right (drop 1 turns) (take 1 turns) core first
            | inr later ↦ Contains-append_left (drop 1 turns) (take 1 turns) core later
          ])
          | inr idle ↦ inr idle
        ];
      }

  -- without a turn each core is idle, and the machine is quiet
  pub all_done : (r : Option ℕ) → r ≡ slice_get turns 0 → IfNone r (((core : ℕ) → (todo_of lanes core).left ≡ []) × IsQuiet s)
  all_done (Some first) is = tt
  all_done None is =
      let idle : (core : ℕ) → IsIdle (todo_of lanes core) = λ core. elim (fit.busy core) [
        | inl there ↦ (elim turns as (λ turns. slice_get turns 0 ≡ None → Contains turns core → IsIdle (todo_of lanes core)) [ [] ↦ λ none has. absurd (let lt = has.1 in omega arith) | x ∷ xs ↦ λ none has. cc ]) (sym is) there
        | inr h ↦ h
      ] in
      let none : (core : ℕ) → lanes_under_way lanes core ≡ None = λ core. ap block_of_work (idle core).1 in
      let serving : IsServing (λ core. None) s = record {
        waits = λ core i d lt. sym (none core) ∙ fit.serving.waits core i d lt;
        opened = λ block transaction open_here. sym (none transaction.core) ∙ fit.serving.opened block transaction open_here;
      } in
      (λ core. (idle core).0, turn_rule.comes_to_rest s serving fit.kept)
