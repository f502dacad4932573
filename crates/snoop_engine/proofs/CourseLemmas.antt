-- Courses, step by step: that each step leaves fewer to come, and the rows that they serve.
use Rattle.snoop_engine.proofs.Common.{filter, is_operation, AsksOneByOne, AsksWhenQuiet, IsQuietFor, none-some, common_steps, ◌≡◌, ℕ, ◌+◌, ◌*◌, ◌<◌, true, cond, Option, Some, None, List, [], ◌∷◌, ◌++◌, length, length-append, map, refl, sym, ◌∙◌, ap, arith, Result, Ok, IsOk, IfNone, filter-append, length-map, map-append, All-cons, All-nil, Extent, Row, Step, Protocol, Reply, Refused, Picture, Situation, reset, FirstMove, TheRun, IsQuiet, steps_paid, turn_rule, untouched, has_transaction, steps_owed, LeadsOn, EndsInOrder, InOrder, LeadsToRest, remaining_in_order, StepsServe, StepsServeSerially, IsAtTheEnd, IsAtTheStart, Progress, ServesSerially, all_asks, ask_for, is_ask, Serves, asks_of, works_of, cases_lt, get_or_past, get_or-set_same, get_or-set_other, inl, inr, nothing_to_do, slice_set, sum_by-set, ◌≢◌, suc, sum_by-cons, Ask, eq-eqb, ne_eqb, Todo, todo_of, left_in, TakesUp, remaining, TakesUpNext}
use Rattle.std.proofs.lemmas.List.Folds.{sum_by-replicate}
use Rattle.snoop_engine.proofs.{OrderLemmas.{legal_history, performed_in_order}, TakenLemmas.same_shape}

left_cons : (lane : Todo) (lanes : List Todo) → left_in (lane ∷ lanes) ≡ length lane.left + left_in lanes
left_cons lane lanes = omega (arith, sum_by-cons (λ (t : Todo). length t.left) lane lanes)

-- lanes that are alike at each core have as many rows left
pub left_same : (xs ys : List Todo) → ((k : ℕ) → length (todo_of xs k).left ≡ length (todo_of ys k).left) → left_in xs ≡ left_in ys
left_same [] [] same = omega arith
left_same [] (y ∷ ys) same = omega (arith, left_cons, same 0, left_same [] ys (λ k. same (suc k)))
left_same (x ∷ xs) [] same = omega (arith, left_cons, same 0, left_same xs [] (λ k. same (suc k)))
left_same (x ∷ xs) (y ∷ ys) same = omega (arith, left_cons, same 0, left_same xs ys (λ k. same (suc k)))

-- one core has one row fewer left
left_fewer : (xs ys : List Todo) (core : ℕ) → length (todo_of xs core).left ≡ 1 + length (todo_of ys core).left
    → ((k : ℕ) → k ≢ core → length (todo_of xs k).left ≡ length (todo_of ys k).left) → left_in xs ≡ 1 + left_in ys
left_fewer xs ys core one same = elim (cases_lt core (length xs)) [
  | inl there ↦
      let lane : Todo = todo_of ys core in
      let alike : left_in (slice_set xs core lane) ≡ left_in ys = left_same (slice_set xs core lane) ys (λ k. grind (arith, get_or-set_same xs core lane nothing_to_do there, get_or-set_other xs core k lane nothing_to_do, same k)) in
      omega (arith, sum_by-set (λ (t : Todo). length t.left) xs core lane nothing_to_do there)
  | inr past ↦ let none = ap (λ (t : Todo). length t.left) (get_or_past xs core nothing_to_do (omega arith)) in absurd (omega (arith, one, none))
]

-- what a step takes up is what it pays for
left_paid : (old new : List Todo) (step : Step) → TakesUp old step new → 3 * left_in old ≡ steps_paid step + 3 * left_in new
left_paid old new (Ask core block word asking) takes =
    let own : length (todo_of old core).left ≡ suc (length (todo_of new core).left) = rw (eq-eqb core core refl) at (ap length (takes core)) in
    let others : (k : ℕ) → k ≢ core → length (todo_of old k).left ≡ length (todo_of new k).left = λ k ne. rw (ne_eqb core k (λ e. ne (sym e))) at (ap length (takes k)) in
    omega (arith, left_fewer old new core (omega (arith, own)) others)
left_paid old new _ takes = omega (arith, left_same old new (λ k. ap length (takes k)))

-- each step leaves fewer to come
pub leaves_fewer : (old new : Progress) (step : Step) (answer : Reply) → FirstMove old.situation step answer new.situation
    → TakesUp old.lanes step new.lanes → remaining new < remaining old
leaves_fewer old new step answer move takes =
    omega (arith, left_paid old.lanes new.lanes step takes, turn_rule.pays old.situation new.situation step answer move)

-- where each core asks for one thing at a time from here on, and the step asks so, it does from the step on
one_more : (old new : Situation) (step : Step) (answer : Reply) → FirstMove old step answer new → AsksWhenQuiet old step → (steps : List Step) → AsksOneByOne new steps → AsksOneByOne old (step ∷ steps)
one_more old new step answer move quiet steps apart [] after core block word asking split =
    let same_step : step ≡ Ask core block word asking = cc in
    record { outcomes = []; reached = old; run = refl; quiet = rw same_step at quiet }
one_more old new step answer move quiet steps apart (b ∷ bs) after core block word asking split =
    let same_step : step ≡ b = cc in
    let later = apart bs after core block word asking (cc) in
    rw (← same_step) (record { outcomes = Ok answer ∷ later.outcomes; reached = later.reached; run = (new, (move, later.run)); quiet = later.quiet })

pub one_none : (here : Situation) → AsksOneByOne here []
one_none here before after core block word asking split =
    (let long : 0 ≡ length (before ++ Ask core block word asking ∷ after) = ap (λ (l : List Step). length l) split in absurd (omega (arith, length-append before (Ask core block word asking ∷ after))))

-- a driver of rows leads on by its step
pub driver_leads : (old new : Progress) (step : Step) (answer : Reply) → FirstMove old.situation step answer new.situation → TakesUp old.lanes step new.lanes → AsksWhenQuiet old.situation step
    → LeadsOn (IsAtTheEnd old) step (Ok answer) (IsAtTheEnd new)
driver_leads old new step answer move takes quiet steps outcomes final h = record {
  run = (new.situation, (move, h.run));
  taken = All-cons IsOk (Ok answer) outcomes refl h.taken;
  asked = λ core. rw (takes core, h.asked core) (grind (arith, common_steps));
  apart = one_more old.situation new.situation step answer move quiet steps h.apart;
  quiet = h.quiet;
  few = omega (arith, leaves_fewer old new step answer move takes, h.few);
}

-- a machine at reset owes no steps
owed_reset : (protocol : Protocol) (shape : Extent) → steps_owed (reset protocol shape) ≡ 0
owed_reset protocol shape =
    omega (
      arith,
      sum_by-replicate (λ (queue : List ℕ). length queue) shape.cores [],
      sum_by-replicate (λ (picture : Picture). cond (has_transaction picture) 1 0) shape.blocks (untouched protocol shape.cores),
    )

-- the driver's steps from reset serve its rows
pub driver_served : {protocol : Protocol} {shape : Extent} {rows : List Row} {start : Progress} {steps : List Step} {outcomes : List (Result Reply Refused)} {final : Situation}
    → IsAtTheStart protocol shape rows start → IsAtTheEnd start steps outcomes final
    → TheRun protocol shape steps outcomes final × Serves protocol shape rows steps outcomes final
driver_served {protocol} {shape} {steps = steps} {outcomes = outcomes} {final = final} begins end = (
  rw begins.situation at end.run,
  record {
    taken = end.taken;
    asked = λ core. sym (end.asked core) ∙ begins.left core;
    apart = rw begins.situation at end.apart;
    legal = legal_history protocol shape steps outcomes final (rw begins.situation at end.run);
    performed = λ core. performed_in_order protocol shape steps outcomes final (rw begins.situation at end.run) end.taken (rw begins.situation at end.apart) end.quiet core
        ∙ ap (filter is_operation) (sym (end.asked core) ∙ begins.left core);
    quiet = end.quiet;
    few = omega (arith, rw (begins.situation, begins.all) at end.few, owed_reset protocol shape);
  },
)

pub driver_serves : {protocol : Protocol} {shape : Extent} {rows : List Row} {start : Progress} {steps : List Step} {outcomes : List (Result Reply Refused)} {final : Situation}
    → IsAtTheStart protocol shape rows start → IsAtTheEnd start steps outcomes final → StepsServe protocol shape rows steps
driver_serves {outcomes = outcomes} {final = final} begins end = let served = driver_served begins end in record { outcomes = outcomes; final = final; run = served.0; serves = served.1 }

module _ (old new : InOrder) (step : Step) (answer : Reply) (move : FirstMove old.situation step answer new.situation) (takes : TakesUpNext old step new.left) where
  -- fewer steps may still come
  pub fewer_in_order : remaining_in_order new < remaining_in_order old
  fewer_in_order =
      let pays = turn_rule.pays old.situation new.situation step answer move in
      let asked : length (all_asks (step ∷ [])) ≡ length takes.first = rw takes.asked (length-map takes.first (ask_for old.situation.shape)) in
      let left : length old.left ≡ length takes.first + length new.left = rw takes.left (length-append takes.first new.left) in
      let paid : steps_paid step ≡ 3 * length (all_asks (step ∷ [])) = grind (arith, common_steps) in
      omega (arith, pays, asked, left)

  module _ (steps : List Step) (outcomes : List (Result Reply Refused)) (final : Situation) (h : EndsInOrder new steps outcomes final) where
    at_rest : (before after : List Step) (x : Step) → step ∷ steps ≡ before ++ x ∷ after → is_ask x ≡ true → LeadsToRest old.situation before
    at_rest [] after x split its =
        let same_step : step ≡ x = cc in
        record { outcomes = []; reached = old.situation; run = refl; quiet = takes.rest (rw same_step its) }
    at_rest (b ∷ bs) after x split its =
        let same_step : step ≡ b = cc in
        let later = h.apart bs after x (cc) its in
        rw (← same_step) (record { outcomes = Ok answer ∷ later.outcomes; reached = later.reached; run = (new.situation, (move, later.run)); quiet = later.quiet })

    pub in_order_leads : EndsInOrder old (step ∷ steps) (Ok answer ∷ outcomes) final
    in_order_leads = record {
      run = (new.situation, (move, h.run));
      taken = All-cons IsOk (Ok answer) outcomes refl h.taken;
      asked = rw (filter-append is_ask (step ∷ []) steps, takes.asked, h.asked, same_shape old.situation new.situation step answer move, takes.left) (sym (map-append (ask_for old.situation.shape) takes.first new.left));
      apart = at_rest;
      quiet = h.quiet;
      few = omega (arith, fewer_in_order, h.few);
    }

pub in_order_ends : (old : InOrder) → old.left ≡ [] → IsQuiet old.situation → EndsInOrder old [] [] old.situation
in_order_ends old none quiet = record {
  run = refl;
  taken = All-nil IsOk;
  asked = ap (map (ask_for old.situation.shape)) (sym none);
  apart = λ before after step split its. (let long : 0 ≡ length (before ++ step ∷ after) = ap (λ (l : List Step). length l) split in absurd (omega (arith, length-append before (step ∷ after))));
  quiet = quiet;
  few = omega arith;
}

-- where nothing waits and nothing is open, nothing of a core does
quiet_for : {s : Situation} → IsQuiet s → (core : ℕ) → IsQuietFor s core
quiet_for quiet core = record { ordered = quiet.ordered core; closed = λ block request has. none-some _ (sym (quiet.closed block) ∙ has.1.0) }

-- a core's Asks are among the Asks of all cores
asks_among : (core : ℕ) (steps : List Step) → asks_of steps core ≡ asks_of (all_asks steps) core
asks_among core [] = refl
asks_among core (step ∷ steps) = grind (arith, common_steps, asks_among core steps)

-- those of the rows are the core's works
asks_of_rows : (shape : Extent) (core : ℕ) (rows : List Row) → asks_of (map (ask_for shape) rows) core ≡ works_of shape rows core
asks_of_rows shape core [] = refl
asks_of_rows shape core (row ∷ rows) =
    grind (arith, common_steps, asks_of_rows shape core rows)

module _ {protocol : Protocol} {shape : Extent} {rows : List Row} {start : InOrder} (at : start.situation ≡ reset protocol shape) (left : start.left ≡ rows)
    {steps : List Step} {outcomes : List (Result Reply Refused)} {final : Situation} (end : EndsInOrder start steps outcomes final) where
  pub in_order_served : TheRun protocol shape steps outcomes final × ServesSerially protocol shape rows steps outcomes final
  in_order_served =
      let asked : all_asks steps ≡ map (ask_for shape) rows = rw (at, left) at end.asked in
      let run : TheRun protocol shape steps outcomes final = rw at at end.run in
      let own : (core : ℕ) → asks_of steps core ≡ works_of shape rows core = λ core. rw (asks_among core steps, asked) (asks_of_rows shape core rows) in
      let one : AsksOneByOne (reset protocol shape) steps = λ before after core block word asking split.
      (let rest = rw at at (end.apart before after (Ask core block word asking) split refl) in
      record { outcomes = rest.outcomes; reached = rest.reached; run = rest.run; quiet = quiet_for rest.quiet core }) in (
        run,
        record {
          serves = record {
            taken = end.taken;
            asked = own;
            apart = one;
            legal = legal_history protocol shape steps outcomes final run;
            performed = λ core. performed_in_order protocol shape steps outcomes final run end.taken one end.quiet core ∙ ap (filter is_operation) (own core);
            quiet = end.quiet;
            few = omega (arith, rw (at, left) at end.few, owed_reset protocol shape);
          };
          asked = asked;
          apart = λ before after step split its.
              (let rest = rw at at (end.apart before after step split its) in
              record { outcomes = rest.outcomes; reached = rest.reached; run = rest.run; quiet = rest.quiet });
        },
      )

  pub in_order_serves : StepsServeSerially protocol shape rows steps
  in_order_serves = record { outcomes = outcomes; final = final; run = in_order_served.0; serves = in_order_served.1 }

-- at the end
pub in_order_end : (old : InOrder) (r : Option Step) → IsQuiet old.situation → IfNone r (old.left ≡ []) → IfNone r (EndsInOrder old [] [] old.situation)
in_order_end old (Some step) quiet none = tt
in_order_end old None quiet none = in_order_ends old none quiet
