-- Packed steps, one more, and steps that all ask.
use Rattle.snoop_engine.proofs.Common.{common_steps, ◌≡◌, ℕ, ◌≤◌, List, [], ◌∷◌, ◌++◌, length, drop, sum_by-cons, slice_index_or, refl, arith, length-drop, step_by, step_of_head, steps_in, stored_by, stored_in, worded_by, worded_in, map, sym, ◌∙◌, ap, Result, OnOk, OnErr, length-map, map-append, Asked, Step, Ask, step_of, asked_by}
use Rattle.std.proofs.lemmas.List.{drop-append-le, get_or_append_left}
use Rattle.snoop_engine.specs.declared.packed.{Kind.Kind, Head.Head}

-- a head's step is the same with more words and values after its own
step_on : (k : Kind) (h : Head) (ws mw vs mv : List ℕ) → worded_by k ≤ length ws → stored_by k ≤ length vs
    → step_by k h (slice_index_or (ws ++ mw) 0 0) (slice_index_or (vs ++ mv) 0 0) ≡ step_by k h (slice_index_or ws 0 0) (slice_index_or vs 0 0)
step_on k h ws mw vs mv w v = grind (arith, common_steps, get_or_append_left ws mw 0 0, get_or_append_left vs mv 0 0)

-- a head at the end, with its word and what it stores
pub steps_more : (hs : List Head) (ws vs : List ℕ) (h : Head) (mw mv : List ℕ) → worded_in hs ≡ length ws → stored_in hs ≡ length vs
    → steps_in (hs ++ h ∷ []) (ws ++ mw) (vs ++ mv) ≡ steps_in hs ws vs ++ step_of_head h (slice_index_or mw 0 0) (slice_index_or mv 0 0) ∷ []
steps_more [] [] [] h mw mv e f = refl
steps_more (k ∷ ks) ws vs h mw mv e f =
    let worded = sum_by-cons (λ (h : Head). worded_by h.kind) k ks in
    let stored = sum_by-cons (λ (h : Head). stored_by h.kind) k ks in
    let w : worded_by k.kind ≤ length ws = omega arith in
    let v : stored_by k.kind ≤ length vs = omega arith in
    rw (step_on k.kind k ws mw vs mv w v, drop-append-le (worded_by k.kind) ws mw w, drop-append-le (stored_by k.kind) vs mv v)
    (rw (steps_more ks (drop (worded_by k.kind) ws) (drop (stored_by k.kind) vs) h mw mv (omega (arith, length-drop (worded_by k.kind) ws)) (omega (arith, length-drop (stored_by k.kind) vs))))
steps_more _ ws vs h mw mv e f = absurd (omega arith)

-- there is a step for each head
pub steps_counted : (hs : List Head) (ws vs : List ℕ) → length (steps_in hs ws vs) ≡ length hs
steps_counted [] ws vs = refl
steps_counted (h ∷ hs) ws vs = let more = steps_counted hs (drop (worded_by h.kind) ws) (drop (stored_by h.kind) vs) in omega arith

-- one more Ask asks for one thing more
pub asked_on : (steps : List Step) (asked : Asked) → asked_by (steps ++ step_of asked ∷ []) ≡ asked_by steps ++ asked ∷ []
asked_on [] asked = refl
asked_on (step ∷ steps) asked = grind (arith, common_steps, asked_on steps asked)

-- and all steps ask still, also where there was no memory for it
pub still_ask : {E : Type 0} (r : Result (Unit {0}) E) (old new : List Step) (asked : Asked) → old ≡ map step_of (asked_by old)
    → OnOk r (new ≡ old ++ step_of asked ∷ []) → OnErr r (new ≡ old) → new ≡ map step_of (asked_by new)
still_ask r old new asked kept ok err = grind (arith, common_steps, asked_on old asked, map-append step_of (asked_by old) (asked ∷ []))

-- there is an Ask for each
pub asked_counted : (steps : List Step) → steps ≡ map step_of (asked_by steps) → length (asked_by steps) ≡ length steps
asked_counted steps kept = sym (ap (λ (l : List Step). length l) kept ∙ length-map (asked_by steps) step_of)

-- so the first asks
pub first_asks : (steps rest : List Step) (step : Step) → steps ≡ map step_of (asked_by steps) → steps ≡ step ∷ rest
    → ((core block word : _) (asking : _) → step ≡ Ask core block word asking → ⊥) → ⊥
first_asks steps rest step kept first none =
    (elim (asked_by steps) as (λ asks. step ∷ rest ≡ map step_of asks → ⊥) [ [] ↦ λ e. cc | asked ∷ asks ↦ λ e. none asked.core asked.work.block asked.work.word asked.work.op (cc) ])
    (sym first ∙ kept)
