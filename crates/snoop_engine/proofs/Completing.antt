-- From wherever a driver of rows has come, its rows can be served.
use Rattle.snoop_engine.proofs.Common.{eq-eqb, option_map_or, IsIdle, get_or, get_or_default, ◌≡◌, ℕ, zero, suc, ◌+◌, ◌/◌, ◌<◌, true, Option, Some, None, List, [], ◌∷◌, length, refl, sym, ◌∙◌, ap, arith, inl, inr, Ok, IsOk, slice_set, All-head, All-nil, All-tail, word_asked, Row, Step, Ask, Work, Reply, FirstMove, Situation, reset, IsUnderWay, turn_of, CanEnd, CanEndFrom, LeadsListed, runs_go_on, Leading, LeadsOn, EndsInOrder, InOrder, IsInOrder, TakesUpNext, remaining_in_order, row_under_way, IsAtTheEnd, ServesOnly, nothing, AsksWhenQuiet, IsEnabled, IsFit, IsOver, Progress, TakesUp, remaining, ask_for, Todo, block_of_work, left_in, nothing_to_do, todo_of, lanes_under_way}
use Rattle.snoop_model.proofs.{Queues.keeps_well, Runs.GoOn.{IsSteady, moves_on, reset_steady, run_steady, steady_on}}
use Rattle.snoop_engine.proofs.CourseLemmas.{one_none, driver_leads, fewer_in_order, in_order_ends, in_order_leads, leaves_fewer, left_same}
use Rattle.snoop_engine.proofs.Driving.{all_done, fit_begins, fit_idles, fit_moves, goes_begun, goes_on, lane_apart, lane_put, over_idle, over_now, quiet_over, takes_first}
use Rattle.snoop_engine.proofs.InOrderLemmas.{asks_nothing_more, at_rest, begun_enabled, begun_fit, begun_takes_up, goes_on_enabled, in_order_moves, row_over, under_way_asks_nothing}

-- a step that no cause refuses is taken, and then those that lead to the end from there
by_step : (leads : Leading) (s : Situation) → IsSteady s → (step : Step) → IsEnabled s step
    → ((answer : Reply) (t : Situation) → FirstMove s step answer t → IsSteady t
    → (next : Leading) × (LeadsOn leads step (Ok answer) next × CanEnd next)) → CanEnd leads
by_step leads s steady step enabled on =
    let one = moves_on s steady.0 steady.1.queued step enabled in
    let to = on one.0 one.1.0 one.1.1 (steady_on keeps_well s step (Ok one.0) one.1.0 steady one.1.1) in
    let end = to.1.1 in
    record { steps = step ∷ end.steps; outcomes = Ok one.0 ∷ end.outcomes; final = end.final; way = to.1.0 end.steps end.outcomes end.final end.way }

-- what holds of a driver where it holds of each that has less left, holds of all
by_less : {D : Type 0} (left : D → ℕ) (P : D → Type 0) → ((d : D) → ((e : D) → left e < left d → P e) → P d) → (fuel : ℕ) (d : D) → left d < fuel → P d
by_less left P one zero d few = absurd (omega arith)
by_less left P one (suc fuel) d few = one d (λ e less. by_less left P one fuel e (omega arith))

-- drivers whose cores go side by side
abbrev turns_left : Progress → ℕ
turns_left d = remaining d + length d.turns

abbrev DriverEnds : Progress → Type 0
DriverEnds d = IsFit d.situation d.lanes d.turns → IsSteady d.situation → CanEnd (IsAtTheEnd d)

-- a core that is idle needs no turn
without_turn : {s : Situation} {lanes : List Todo} {core : ℕ} {turns : List ℕ} → IsFit s lanes (core ∷ turns) → IsIdle (todo_of lanes core) → IsFit s lanes turns
without_turn {s} {lanes} {core} {turns} fit none = record {
  cores = fit.cores;
  within = fit.within;
  serving = fit.serving;
  kept = fit.kept;
  few = All-tail (λ (k : ℕ). k < s.shape.cores) core turns fit.few;
  busy = λ k. elim (fit.busy k) [
    | inl (zero, lt, e) ↦ inr (rw (← e) none)
    | inl (suc i, lt, e) ↦ inl (i, omega arith, e)
    | inr h ↦ inr h
  ];
}

module _ {s : Situation} {lanes : List Todo} {core : ℕ} {turns : List ℕ} (fit : IsFit s lanes (core ∷ turns)) (steady : IsSteady s)
    (on : (e : Progress) → turns_left e < turns_left (record { situation = s; lanes = lanes; turns = core ∷ turns }) → DriverEnds e) where
  abbrev here : Progress
  here = record { situation = s; lanes = lanes; turns = core ∷ turns }

  has_core : core < s.shape.cores
  has_core = All-head (λ (k : ℕ). k < s.shape.cores) core turns fit.few

  read : todo_of lanes core ≡ get_or lanes core (todo_of lanes core)
  read = get_or_default lanes core nothing_to_do (todo_of lanes core) (let cores = fit.cores in let has = has_core in omega arith)

  -- by one step more
  by : (next : List Todo) (step : Step) → IsFit s next (core ∷ turns) → IsUnderWay (lanes_under_way next) step → IsEnabled s step → TakesUp lanes step next → AsksWhenQuiet s step
      → CanEnd (IsAtTheEnd here)
  by next step fit_next its enabled takes quiet = by_step (IsAtTheEnd here) s steady step enabled (λ answer t move steady_then.
      let new : Progress = record { situation = t; lanes = next; turns = core ∷ turns } in
      (IsAtTheEnd new, (driver_leads here new step answer move takes quiet, on new (omega (arith, leaves_fewer here new step answer move takes)) (fit_moves fit_next t step answer its move) steady_then)))

  -- the core's work is over, and no row is left: it needs no turn
  idle : IsOver lanes s core → (todo_of lanes core).left ≡ [] → CanEnd (IsAtTheEnd here)
  idle over none =
      let next : List Todo = slice_set lanes core nothing_to_do in
      let own = lane_put fit has_core nothing_to_do in
      let same : (k : ℕ) → (todo_of next k).left ≡ (todo_of lanes k).left = λ k. grind (arith, own, none, lane_apart fit has_core nothing_to_do k) in
      let as_many : left_in next ≡ left_in lanes = left_same next lanes (λ k. ap length (same k)) in
      let fit_then = without_turn (fit_idles fit has_core over nothing_to_do (0, omega arith, refl) (refl, refl)) (rw own (refl, refl)) in
      let end = on (record { situation = s; lanes = next; turns = turns }) (omega (arith, as_many)) fit_then steady in
      let way : IsAtTheEnd here end.steps end.outcomes end.final =
      record { run = end.way.run; taken = end.way.taken; asked = λ k. sym (same k) ∙ end.way.asked k; apart = end.way.apart; quiet = end.way.quiet; few = (let few = end.way.few in omega (arith, as_many)) } in
      record { steps = end.steps; outcomes = end.outcomes; final = end.final; way = way }

  by_left : IsOver lanes s core → (left : List Work) → (todo_of lanes core).left ≡ left → CanEnd (IsAtTheEnd here)
  by_left over [] none = idle over none
  by_left over (work ∷ works) first =
      let lane : Todo = record { left = works; work = Some work } in
      by (slice_set lanes core lane) (Ask core work.block work.word work.op) (fit_begins fit has_core over lane read first (0, omega arith, refl) refl)
      (ap (λ (t : Todo). block_of_work t.work) (lane_put fit has_core lane)) (goes_begun fit has_core over lane read first _ refl) (takes_first fit has_core over lane read first _ refl)
      (quiet_over fit has_core over)

  by_work : (work : Option Work) (r : Option Step) → (todo_of lanes core).work ≡ work → r ≡ option_map_or (λ (w : Work). turn_of s core w.block w.word w.op true) work None → CanEnd (IsAtTheEnd here)
  by_work None r none is = by_left (over_idle fit has_core none) (todo_of lanes core).left refl
  by_work (Some work) None works is = by_left (over_now fit has_core read works None is) (todo_of lanes core).left refl
  by_work (Some work) (Some step) works is =
      let own = under_way_asks_nothing s core work.block work.word work.op (Some step) is in
      by lanes step fit (own.1 (lanes_under_way lanes)) (goes_on fit has_core read works (Some step) is) (λ k. rw (own.2 k)) (own.3 s)

driver_ends : (s : Situation) (lanes : List Todo) (turns : List ℕ)
    → (let d : Progress = record { situation = s; lanes = lanes; turns = turns } in ((e : Progress) → turns_left e < turns_left d → DriverEnds e) → DriverEnds d)
driver_ends s lanes [] on fit steady =
    let done = all_done fit None refl in
    record { steps = []; outcomes = []; final = s; way = record { run = refl; taken = All-nil IsOk; asked = done.0; apart = one_none s; quiet = done.1; few = omega arith } }
driver_ends s lanes (core ∷ turns) on fit steady = by_work fit steady on (todo_of lanes core).work _ refl refl

-- a driver that serves one row after another
abbrev InOrderEnds : InOrder → Type 0
InOrderEnds d = IsInOrder d.situation d.left d.row → IsSteady d.situation → CanEnd (EndsInOrder d)

module _ (s : Situation) (left : List Row) (row : Option Row)
    (on : (e : InOrder) → remaining_in_order e < remaining_in_order (record { situation = s; left = left; row = row }) → InOrderEnds e)
    (fit : IsInOrder s left row) (steady : IsSteady s) where
  abbrev there : InOrder
  there = record { situation = s; left = left; row = row }

  -- by one step more
  then : (rest : List Row) (next : Option Row) (step : Step) → IsInOrder s rest next → IsUnderWay (row_under_way s.shape next) step → IsEnabled s step → TakesUpNext there step rest → CanEnd (EndsInOrder there)
  then rest next step fit_next its enabled takes = by_step (EndsInOrder there) s steady step enabled (λ answer t move steady_then.
      let new : InOrder = record { situation = t; left = rest; row = next } in
      (EndsInOrder new, (in_order_leads there new step answer move takes, on new (fewer_in_order there new step answer move takes) (in_order_moves fit_next t step answer its move) steady_then)))

  then_left : ServesOnly nothing s → (rows : List Row) → left ≡ rows → CanEnd (EndsInOrder there)
  then_left serves [] none = record { steps = []; outcomes = []; final = s; way = in_order_ends there none (at_rest s serves) }
  then_left serves (next ∷ rest) first =
      then rest (Some next) (ask_for s.shape next) (begun_fit fit serves next rest first) (rw (eq-eqb next.core next.core refl)) (begun_enabled fit serves next rest first) (begun_takes_up fit serves next rest first)

  then_row : (own : Option Row) (r : Option Step) → row ≡ own
      → r ≡ option_map_or (λ (own : Row). turn_of s own.core (own.address / s.shape.block_bytes) (word_asked s.shape own.address own.op) own.op true) own None → CanEnd (EndsInOrder there)
  then_row None r none is = then_left (rw none at fit.serves) left refl
  then_row (Some own) None its is = then_left (row_over (rw its at fit) None is) left refl
  then_row (Some own) (Some step) its is =
      let none = under_way_asks_nothing s own.core (own.address / s.shape.block_bytes) (word_asked s.shape own.address own.op) own.op (Some step) is in
      then left row step fit (none.1 (row_under_way s.shape row)) (goes_on_enabled (rw its at fit) (Some step) is) (asks_nothing_more there step none.0)

-- wherever a run has led, such drivers can go on to their ends
pub driver_can_end : (d : Progress) → IsFit d.situation d.lanes d.turns → CanEndFrom d.situation (IsAtTheEnd d)
driver_can_end d fit protocol shape steps outcomes run =
    by_less turns_left DriverEnds (λ d. driver_ends d.situation d.lanes d.turns) (suc (turns_left d)) d (omega arith) fit
    (run_steady steps outcomes (reset protocol shape) d.situation (reset_steady protocol shape) run)

pub in_order_can_end : (d : InOrder) → IsInOrder d.situation d.left d.row → CanEndFrom d.situation (EndsInOrder d)
in_order_can_end d fit protocol shape steps outcomes run =
    by_less remaining_in_order InOrderEnds (λ d on fit steady. then_row d.situation d.left d.row on fit steady d.row _ refl refl) (suc (remaining_in_order d)) d (omega arith) fit
    (run_steady steps outcomes (reset protocol shape) d.situation (reset_steady protocol shape) run)

-- and so can steps that are all known
pub listed_can_end : (left : List Step) (here : Situation) → CanEndFrom here (LeadsListed left here)
listed_can_end left here protocol shape steps outcomes run =
    let more = runs_go_on protocol shape steps left outcomes here run in
    record { steps = left; outcomes = more.0; final = more.1.0; way = (refl, more.1.1) }
