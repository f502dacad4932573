-- From every situation of a run each step leads on, in one way: it is a move, or refused for a cause. And runs whose steps were all taken.
use Rattle.snoop_model.proofs.Common.{[], ap, Err, Extent, FirstMove, FirstRunFrom, Goes, GoesFirst, Invariant, IsWellKept, KeepsWell, List, map, map-append, None, Ok, Protocol, refl, Refused, Refuses, Reply, reset, Result, rules, RunBy, Situation, Step, sym, taken, TakenGoesOn, ◌++◌, ◌∙◌, ◌∷◌, ◌≡◌, arith}
use Rattle.snoop_model.specs.Runs.{Run.{RunsAreOne, RunsGoOn}, TakenOnce.TakenOnce}
use Rattle.snoop_model.proofs.{Invariant.Runs.{move_keeps, reset_invariant}, Once.run_asked_once, Queues.{AreQueued, keeps_well, starts_well}}
use Rattle.snoop_model.proofs.{Runs.Along.{kept_along, run_more, seen_along}, Steps.{goes_is, goes_next, next_of}}

-- a step that is not refused is a move, an Order's on the first block of its core's queue
pub moves_on : (s : Situation) → Invariant s → AreQueued s → (step : Step) → ((cause : Refused) → ¬ Refuses s step cause)
    → (answer : Reply) × ((new : Situation) × FirstMove s step answer new)
moves_on s g queued step allowed = go (next_of s step).0 (next_of s step).1 (goes_next s g queued step)
  where
    go : (outcome : Result Reply Refused) (new : Situation) → GoesFirst s step outcome new → (answer : Reply) × ((new : Situation) × FirstMove s step answer new)
    go (Ok answer) new goes = (answer, (new, goes))
    go (Err cause) new goes = absurd (allowed cause goes.0)

-- what every run keeps
abbrev pub IsSteady : Situation → Type 0
IsSteady s = Invariant s × IsWellKept s

pub steady_on : KeepsWell → (old : Situation) (step : Step) (outcome : Result Reply Refused) (new : Situation) → IsSteady old → GoesFirst old step outcome new → IsSteady new
steady_on keeps old step (Ok answer) new steady goes = (move_keeps goes.0 old step answer new steady.0 goes.1.1, keeps old new step answer steady.1 goes)
steady_on keeps old step (Err cause) new steady goes = rw goes.1 steady

-- it holds at reset, and after each step of a run
pub reset_steady : (protocol : Protocol) (shape : Extent) → IsSteady (reset protocol shape)
reset_steady protocol shape = (reset_invariant protocol shape, (starts_well protocol shape (λ core. None)).0)

pub run_steady : (steps : List Step) (outcomes : List (Result Reply Refused)) (old new : Situation) → IsSteady old → FirstRunFrom old steps outcomes new
    → IsSteady new
run_steady = kept_along GoesFirst IsSteady (steady_on keeps_well)

-- from where it holds any steps have a run
pub runs_on : (steps : List Step) (s : Situation) → IsSteady s → (outcomes : List (Result Reply Refused)) × ((final : Situation) × FirstRunFrom s steps outcomes final)
runs_on [] s steady = ([], (s, refl))
runs_on (step ∷ steps) s steady =
    let next = next_of s step in
    let goes = goes_next s steady.0 steady.1.queued step in
    let rest = runs_on steps next.1 (steady_on keeps_well s step next.0 next.1 steady goes) in
    (next.0 ∷ rest.0, (rest.1.0, (next.1, (goes, rest.1.1))))

-- so a run goes on, since every situation that it reaches is coherent and well kept
pub runs_go_on : RunsGoOn
runs_go_on protocol shape steps further outcomes reached run = runs_on further reached (run_steady steps outcomes (reset protocol shape) reached (reset_steady protocol shape) run)

-- the run of some steps is the only one: each step comes to what is computed of it
pub run_one : (steps : List Step) (outcomes outcomes' : List (Result Reply Refused)) (old new new' : Situation) → IsSteady old
    → FirstRunFrom old steps outcomes new → FirstRunFrom old steps outcomes' new' → (outcomes ≡ outcomes') × (new ≡ new')
run_one [] [] [] old new new' steady a b = (refl, a ∙ sym b)
run_one (step ∷ steps) (outcome ∷ outcomes) (outcome' ∷ outcomes') old new new' steady a b =
    let is = goes_is old steady.1.queued step in
    let here = is outcome a.0 a.1.0 ∙ sym (is outcome' b.0 b.1.0) in
    let rest : FirstRunFrom a.0 steps outcomes' new' = rw (ap (λ x. x.1) here) b.1.1 in
    let on = run_one steps outcomes outcomes' a.0 new new' (steady_on keeps_well old step outcome a.0 steady a.1.0) a.1.1 rest in
    (ap (λ x. x.0 ∷ outcomes) here ∙ ap (λ l. outcome' ∷ l) on.0, on.1)
run_one _ _ _ old new new' steady a b = search rules

pub runs_are_one : RunsAreOne
runs_are_one protocol shape steps outcomes others final end run other =
    run_one steps outcomes others (reset protocol shape) final end (reset_steady protocol shape) run other

-- one step of the run of some steps is one of a run, in which an Order may be on any block
goes_on_any : (old : Situation) (step : Step) (outcome : Result Reply Refused) (new : Situation) → GoesFirst old step outcome new → Goes old step outcome new
goes_on_any old step outcome new goes = grind (arith, goes)

-- so the run of some steps is a run
pub goes_any : (steps : List Step) (outcomes : List (Result Reply Refused)) (old new : Situation) → FirstRunFrom old steps outcomes new → RunBy Goes old steps outcomes new
goes_any = seen_along GoesFirst Goes (λ s. s) goes_on_any

-- the outcomes of steps that were all taken
abbrev all_ok : List Reply → List (Result Reply Refused)
all_ok replies = map (λ reply. Ok reply) replies

pub taken_goes_on : TakenGoesOn
taken_goes_on protocol shape steps step answer middle new taken move =
    (taken.0 ++ answer ∷ [], rw map-append (run_more GoesFirst steps (all_ok taken.0) (reset protocol shape) middle new step (Ok answer) taken.1 move))

-- none of them was refused
none_refused : (old new : Situation) (steps : List Step) (replies : List Reply) → FirstRunFrom old steps (all_ok replies) new → taken steps (all_ok replies) ≡ steps
none_refused old new [] [] run = refl
none_refused old new (step ∷ steps) (answer ∷ replies) run = ap (λ (rest : List Step). step ∷ rest) (none_refused run.0 new steps replies run.1.1)
none_refused old new _ _ run = absurd run

pub taken_once : TakenOnce
taken_once protocol shape steps s all core block =
    rw (none_refused (reset protocol shape) s steps all.0 all.1) at
    (run_asked_once protocol shape steps (all_ok all.0) s (goes_any steps (all_ok all.0) (reset protocol shape) s all.1) core block)
