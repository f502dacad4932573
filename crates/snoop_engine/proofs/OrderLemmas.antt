-- Where each core asks for one thing at a time, its operations stand in the history in the order in which it asked for them.
use Rattle.snoop_model.proofs.Common.{[], answers_of, ap, append-nil, append_assoc, append_cancel_left, arith, as_access, Ask, asked_access, Did, did_access, eqb, Err, filter, filter-append, filter_map-append, FirstMove, FirstRunFrom, held_by, inl, inr, IsPermutation, Item, Line, List, map, map-append, None, none-some, none_from_not_some, of_core, Ok, OnceMore, Op, Option, option_to_list, Order, picture_of, Protocol, refl, reset, Respond, Result, same_Some, Situation, Some, state_of, Step, sym, zero, ℕ, ◌&&◌, ◌++◌, ◌==◌, ◌∙◌, ◌∷◌, ◌≡◌, ◌⊎◌, ◌≢◌, All, cases_eq, eq-eqb, ne_eqb, Extent}
use Rattle.snoop_model.proofs.{Invariant.Runs.reset_line, Once.{answers_are, cons_one, one_or_none, step_once}, OneBlock.Facts.did_in, Queues.keeps_well, Turns.busy_cases}
use Rattle.snoop_model.proofs.Runs.{GoOn.{IsSteady, reset_steady, run_one, run_steady, steady_on}, Replies.on_stays}
use Rattle.snoop_model.specs.{Turns.Quiet.IsQuiet, declared.{access.Access.Access, replies.{Refused.Refused, Reply.Reply}}}
use Rattle.std.{proofs.lemmas.{Grind.common_steps, List.{Elements.{All-head, All-tail}, Sorted.{length_permutation, Contains-permutation}}}, specs.Prelude.{Bool, true, false, if◌then◌else◌, IsOk}}
use Rattle.snoop_history.specs.History.{Legal}
use Rattle.snoop_trace.specs.declared.step.Work.{Work}
use Rattle.snoop_trace.specs.declared.step.Op.TheVariants as op
use Rattle.snoop_engine.specs.Served.{ask_of, asks_of, AsksOneByOne, is_operation, IsQuietFor, work_done}

-- an access of a block, as a work
abbrev work_at : ℕ → Access → Work
work_at block access = record { block = block; word = access.word; op = access.op }

-- an access of one block at most
abbrev Pending : Type 0
Pending = ℕ → Option Access

-- what was asked is done, but for what is pending, which was asked last of all
record LastPends (pending : Pending) (asks does : List Work) : Type 0 where
  block : ℕ
  access : Access
  pends : pending block ≡ Some access
  others : (other : ℕ) → other ≢ block → pending other ≡ None
  last : asks ≡ does ++ work_at block access ∷ []

-- all that was asked is done, or all but the last, which is pending
abbrev KeepsUp : Pending → List Work → List Work → Type 0
KeepsUp pending asks does = (((block : ℕ) → pending block ≡ None) × (asks ≡ does)) ⊎ LastPends pending asks does

-- permutations of lists of one element at most
same_one : (a c : Option Access) → IsPermutation (option_to_list a) (option_to_list c) → c ≡ a
same_one None None same = refl
same_one None (Some y) same = absurd (let long = length_permutation _ _ same in omega arith)
same_one (Some x) None same = absurd (let long = length_permutation _ _ same in omega arith)
same_one (Some x) (Some y) same = (let has = Contains-permutation _ _ x same (zero, omega arith, refl) in grind (arith, has))

took_one : (a c : Option Access) (w : Access) → IsPermutation (option_to_list a) (w ∷ option_to_list c) → (a ≡ Some w) × (c ≡ None)
took_one None c w same = absurd (let long = length_permutation _ _ same in omega arith)
took_one (Some x) (Some y) w same = absurd (let long = length_permutation _ _ same in omega arith)
took_one (Some x) None w same = (let has = Contains-permutation _ _ x same (zero, omega arith, refl) in grind (arith, has))

-- what is performed then was pending, and is pending no more
keeps_up_done : (before after : Pending) (asks does : List Work) (new : List Did) → (new ≡ []) ⊎ ((d : Did) × (new ≡ d ∷ []))
    → ((block : ℕ) → IsPermutation (option_to_list (before block)) (map did_access (filter (λ d. d.block == block) new) ++ option_to_list (after block)))
    → KeepsUp before asks does → KeepsUp after asks (does ++ map work_done new)
keeps_up_done before after asks does new (inl none) balance follows =
    let same : (block : ℕ) → after block ≡ before block = λ block. same_one _ _ (rw none at (balance block)) in
    rw (none, append-nil does) (elim follows [
      | inl all ↦ inl (λ block. same block ∙ all.0 block, all.1)
      | inr one ↦ inr (record { block = one.block; access = one.access; pends = same one.block ∙ one.pends; others = λ other ne. same other ∙ one.others other ne; last = one.last })
    ])
keeps_up_done before after asks does new (inr one) balance follows =
    let d = one.0 in
    let here = took_one (before d.block) (after d.block) (did_access d) (rw (one.1, eq-eqb d.block d.block refl) at (balance d.block)) in
    let away : (block : ℕ) → block ≢ d.block → after block ≡ before block = λ block ne. same_one _ _ (rw (one.1, ne_eqb d.block block (λ e. ne (sym e))) at (balance block)) in
    elim follows [
      | inl all ↦ absurd (none-some _ (sym (all.0 d.block) ∙ here.0))
      | inr last ↦ elim (cases_eq d.block last.block) [
        | inr ne ↦ absurd (none-some _ (sym (last.others d.block ne) ∙ here.0))
        | inl e ↦
            let is : did_access d ≡ last.access = same_Some _ _ (sym here.0 ∙ (rw (← e) at last.pends)) in
            inl (
              λ block. elim (cases_eq block d.block) [ inl at ↦ rw at here.1 | inr ne ↦ away block ne ∙ last.others block (λ at. ne (at ∙ sym e)) ],
              rw (one.1) (last.last ∙ rw (← is, ← e) refl),
            )
      ]
    ]

-- the operation that waits at the core for each block
abbrev pending_at : Situation → ℕ → Pending
pending_at s core block = (held_by (picture_of s block) core).waiting

-- the core's operations, as it asked for them
abbrev done_by : Situation → ℕ → List Work
done_by s core = map work_done (answers_of s.log core)

abbrev operations_asked : List Step → ℕ → List Work
operations_asked steps core = filter is_operation (asks_of steps core)

-- the core asks in the step
abbrev AsksOf : ℕ → Step → Type 0
AsksOf core (Ask c block word asking) = c ≡ core
AsksOf core _ = ⊥

-- what a core asks for while nothing of its is pending, is pending then
own_asked : (core block word : ℕ) (asking : Op) (asks does : List Work) → asks ≡ does
    → KeepsUp (λ b. asked_access core b (Ask core block word asking)) (asks ++ operations_asked (Ask core block word asking ∷ []) core) does
own_asked core block word op.Evict asks does e =
    inl (λ b. grind (arith, common_steps), rw (eq-eqb core core refl, append-nil asks) e)
own_asked core block word asking asks does e =
    inr (record {
      block = block;
      access = record { word = word; op = asking };
      pends = rw (eq-eqb block block refl, eq-eqb core core refl) refl;
      others = λ other ne. rw (ne_eqb block other (λ at. ne (sym at))) refl;
      last = rw (eq-eqb core core refl, e) refl;
    })

-- what is pending once a step has asked, and that this is what waited and what it asks for
record IsAsked (core : ℕ) (step : Step) (pending : Pending) (asks does : List Work) : Type 0 where
  now : Pending
  follows : KeepsUp now (asks ++ operations_asked (step ∷ []) core) does
  both : (block : ℕ) → option_to_list (now block) ≡ option_to_list (pending block) ++ option_to_list (asked_access core block step)

nothing_asked : (core : ℕ) (step : Step) (pending : Pending) (asks does : List Work) → KeepsUp pending asks does → ((block : ℕ) → asked_access core block step ≡ None) → operations_asked (step ∷ []) core ≡ []
    → IsAsked core step pending asks does
nothing_asked core step pending asks does follows none nothing = record {
  now = pending;
  follows = rw (nothing, append-nil asks) follows;
  both = λ block. rw (none block) (sym (append-nil (option_to_list (pending block))));
}

not_its : (x : Bool) (o : Option Access) → (if x && false then o else None) ≡ None
not_its true o = refl
not_its false o = refl

keeps_up_asked : (core : ℕ) (step : Step) (pending : Pending) (asks does : List Work) → KeepsUp pending asks does → (AsksOf core step → (block : ℕ) → pending block ≡ None) → IsAsked core step pending asks does
keeps_up_asked core (Ask c block word asking) pending asks does follows quiet = elim (cases_eq c core) [
  | inr ne ↦ nothing_asked core (Ask c block word asking) pending asks does follows (λ b. rw (ne_eqb c core ne) (not_its (eqb block b) (as_access word asking))) (rw (ne_eqb c core ne) refl)
  | inl e ↦
      let none = quiet e in
      let same : asks ≡ does = elim follows [ inl all ↦ all.1 | inr last ↦ absurd (none-some _ (sym (none last.block) ∙ last.pends)) ] in
      rw e (record {
        now = λ b. asked_access core b (Ask core block word asking);
        follows = own_asked core block word asking asks does same;
        both = λ b. rw (none b) refl;
      })
]
keeps_up_asked core (Order c) pending asks does follows quiet = nothing_asked core (Order c) pending asks does follows (λ block. refl) refl
keeps_up_asked core (Respond block) pending asks does follows quiet = nothing_asked core (Respond block) pending asks does follows (λ block. refl) refl

-- no operation waits at a core of which no request waits or is open
quiet_waits : (s : Situation) → IsSteady s → (core : ℕ) → IsQuietFor s core → (block : ℕ) → pending_at s core block ≡ None
quiet_waits s steady core quiet block = none_from_not_some (pending_at s core block) (λ o is.
    elim (busy_cases (state_of s core block) (grind (arith, steady.1.operations core block o is))) [
      | inl (request, waiting) ↦ quiet.ordered block request waiting
      | inr (request, awaited) ↦ quiet.closed block request (steady.1.awaits core block request awaited)
    ])

-- a step
step_keeps_up : (core : ℕ) (s t : Situation) (step : Step) (answer : Reply) → IsSteady s → FirstMove s step answer t → (AsksOf core step → IsQuietFor s core)
    → (asks : List Work) → KeepsUp (pending_at s core) asks (done_by s core) → KeepsUp (pending_at t core) (asks ++ operations_asked (step ∷ []) core) (done_by t core)
step_keeps_up core s t step answer steady move quiet asks follows =
    let once : OnceMore s (step ∷ []) (Ok answer ∷ []) t = step_once s t step (Ok answer) steady.0 move in
    let logged = (on_stays move.0 s t step answer move.1.1).1 in
    let since = append_cancel_left s.log once.since (option_to_list logged.0) (sym once.log ∙ logged.1) in
    let new = of_core core (did_in logged.0) in
    let answers : answers_of t.log core ≡ answers_of s.log core ++ new = ap (λ (l : List Item). answers_of l core) logged.1 ∙ answers_are s.log logged.0 core in
    let asked = keeps_up_asked core step (pending_at s core) asks (done_by s core) follows (λ own. quiet_waits s steady core (quiet own)) in
    rw (answers, map-append)
    (keeps_up_done asked.now (pending_at t core) (asks ++ operations_asked (step ∷ []) core) (done_by s core) new (one_or_none core (did_in logged.0))
    (λ block. rw (asked.both block) (rw (since, answers_are [] logged.0 core, cons_one (asked_access core block step)) at (once.once core block))) asked.follows)

-- a run that begins with a step that was taken: where it leads, and that the rest goes on from there
from_taken : (s middle : Situation) (step : Step) (answer : Reply) (steps : List Step) (outcomes : List (Result Reply Refused)) (reached : Situation) → IsSteady s → FirstMove s step answer middle
    → FirstRunFrom s (step ∷ steps) outcomes reached → (rest : List (Result Reply Refused)) × FirstRunFrom middle steps rest reached
from_taken s middle step answer steps (outcome ∷ rest) reached steady move run =
    let same = run_one (step ∷ []) (Ok answer ∷ []) (outcome ∷ []) s middle run.0 steady (middle, (move, refl)) (run.0, (run.1.0, refl)) in
    (rest, rw same.1 run.1.1)
from_taken s middle step answer steps [] reached steady move run = absurd run

-- a run of no steps leads nowhere else
from_none : (s : Situation) (outcomes : List (Result Reply Refused)) (reached : Situation) → FirstRunFrom s [] outcomes reached → reached ≡ s
from_none s [] reached run = run
from_none s (outcome ∷ rest) reached run = absurd run

asks_quiet : (s : Situation) (steps : List Step) (core : ℕ) (step : Step) → AsksOneByOne s (step ∷ steps) → AsksOf core step → IsQuietFor s core
asks_quiet s steps core (Ask c block word asking) apart own =
    let here = apart [] steps c block word asking refl in
    rw (← own, ← from_none s here.outcomes here.reached here.run) here.quiet
asks_quiet s steps core _ apart own = absurd own

-- a run whose steps are all taken
run_keeps_up : (core : ℕ) (steps : List Step) (outcomes : List (Result Reply Refused)) (s t : Situation) → IsSteady s → FirstRunFrom s steps outcomes t → All IsOk outcomes → AsksOneByOne s steps
    → (asks : List Work) → KeepsUp (pending_at s core) asks (done_by s core) → KeepsUp (pending_at t core) (asks ++ operations_asked steps core) (done_by t core)
run_keeps_up core [] [] s t steady run ok apart asks follows = rw (run, append-nil asks) follows
run_keeps_up core (step ∷ steps) (Ok answer ∷ outcomes) s t steady run ok apart asks follows =
    let middle = run.0 in
    let move = run.1.0 in
    let here = step_keeps_up core s middle step answer steady move (asks_quiet s steps core step apart) asks follows in
    let later : AsksOneByOne middle steps = λ before after c block word asking split.
    (let far = apart (step ∷ before) after c block word asking (ap (λ (l : List Step). step ∷ l) split) in
    let rest = from_taken s middle step answer before far.outcomes far.reached steady move far.run in
    record { outcomes = rest.0; reached = far.reached; run = rest.1; quiet = far.quiet }) in
    let on = run_keeps_up core steps outcomes middle t (steady_on keeps_well s step (Ok answer) middle steady move) run.1.1 (All-tail IsOk (Ok answer) outcomes ok) later (asks ++ operations_asked (step ∷ []) core) here in
    rw (filter_map-append (ask_of core) (step ∷ []) steps, filter-append, ← append_assoc asks (operations_asked (step ∷ []) core) (operations_asked steps core)) on
run_keeps_up core (step ∷ steps) (Err cause ∷ outcomes) s t steady run ok apart asks follows = (let clash = All-head IsOk (Err cause) outcomes ok in cc)
run_keeps_up core _ _ s t steady run ok apart asks follows = absurd run

-- the history of the run of some steps is legal
pub legal_history : (protocol : Protocol) (shape : Extent) (steps : List Step) (outcomes : List (Result Reply Refused)) (final : Situation) → FirstRunFrom (reset protocol shape) steps outcomes final → Legal final.log
legal_history protocol shape steps outcomes final run = (run_steady steps outcomes (reset protocol shape) final (reset_steady protocol shape) run).0.legal

-- from reset to rest
pub performed_in_order : (protocol : Protocol) (shape : Extent) (steps : List Step) (outcomes : List (Result Reply Refused)) (final : Situation) → FirstRunFrom (reset protocol shape) steps outcomes final → All IsOk outcomes
    → AsksOneByOne (reset protocol shape) steps → IsQuiet final → (core : ℕ) → map work_done (answers_of final.log core) ≡ filter is_operation (asks_of steps core)
performed_in_order protocol shape steps outcomes final run ok apart quiet core =
    let start : KeepsUp (pending_at (reset protocol shape) core) [] [] = inl (λ block. ap (λ (x : Line). x.waiting) (reset_line protocol shape core block), refl) in
    elim (run_keeps_up core steps outcomes (reset protocol shape) final (reset_steady protocol shape) run ok apart [] start) [
      | inl all ↦ sym all.1
      | inr last ↦ absurd (none-some _ (sym (quiet.performed core last.block) ∙ last.pends))
    ]
