-- Steps leave the protocol and the shape, and what they add to the history is what their outcomes tell.
use Rattle.snoop_model.proofs.Common.{[], ap, append-nil, Ask, asked, CacheAction, CacheState, came_of, Cell, Err, false, FirstMove, Goes, held_by, Hit, IfSome, inl, inr, Invariant, Item, Line, List, MoveOn, None, Ok, Op, Option, option_to_list, Order, picture_of, Protocol, refl, Refused, Reply, Respond, Result, RunBy, Situation, Some, Step, subst, sym, Takes, ℕ, ◌++◌, ◌∙◌, ◌∷◌, ◌≡◌, arith}
use Rattle.snoop_model.specs.Moves.Replies.{Tells}
use Rattle.snoop_model.proofs.{Invariant.Runs.{goes_kept, move_keeps, refusal_same}, OneBlock.AfterMoves.by_request, Runs.Along.kept_along}
use Rattle.snoop_model.proofs.Tables.Rows.{action_rule, serving-asked}
use Rattle.snoop_history.specs.declared.items.Item.TheVariants as item

-- the protocol and the shape are as they were
abbrev pub IsAlike : Situation → Situation → Type 0
IsAlike old new = (new.protocol ≡ old.protocol) × (new.shape ≡ old.shape)

pub same_alike : (old new : Situation) → new ≡ old → IsAlike old new
same_alike old new same = rw same (refl, refl)

-- a move leaves them, and adds at most one item to the log
pub on_stays : (block : ℕ) (old new : Situation) (step : Step) (answer : Reply) → MoveOn block old step answer new
    → IsAlike old new × ((entry : Option Item) × (new.log ≡ old.log ++ option_to_list entry))
on_stays block old new (Ask core on word asking) answer m = elim m.moves [
  | inl absent ↦ rw absent.3 ((refl, refl), (None, sym (append-nil old.log)))
  | inr asks ↦ rw asks.after ((refl, refl), (asks.entry, refl))
]
on_stays block old new (Order core) answer m = rw m.orders.after ((refl, refl), (Some (item.Sent (record { core = core; request = m.request; block = block })), refl))
on_stays block old new (Respond on) answer m = rw m.responds.after ((refl, refl), (Some (item.Came (came_of m.closing) m.did), refl))

pub move_stays : (old new : Situation) (step : Step) (answer : Reply) → FirstMove old step answer new → IsAlike old new
move_stays old new step answer m = (on_stays m.0 old new step answer m.1.1).0

-- one after another
pub alike_on : (old middle new : Situation) → IsAlike old middle → IsAlike middle new → IsAlike old new
alike_on old middle new first rest = (rest.0 ∙ first.0, rest.1 ∙ first.1)

pub run_stays : (steps : List Step) (outcomes : List (Result Reply Refused)) (old new : Situation) → RunBy Goes old steps outcomes new → IsAlike old new
run_stays steps outcomes old new = kept_along Goes (IsAlike old) (goes_kept (IsAlike old) (λ block s step answer t far m. alike_on old s t far (on_stays block s t step answer m).0)) steps outcomes old new (refl, refl)

-- what an Ask's row adds is what its reply tells
module _ (p : Protocol) (next : CacheState) (log : List Item) (core block word : ℕ) (old new : Line) (answer : Reply) (entry : Option Item) where
  taken_tells : (asking : Op) (a : CacheAction) → Cell p old.state (asked asking) a next → Takes a next log core block word asking old new answer entry
      → Tells log (Ask core block word asking) (Ok answer) (log ++ option_to_list entry)
  taken_tells asking Hit row t = grind (arith, t, t.1.0.performed)
  taken_tells asking act row t = grind (arith, t, append-nil log, action_rule p old.state (asked asking) act next row, serving-asked asking)

-- a refusal tells of nothing
pub refusal_tells : {past log : List Item} (step : Step) (cause : Refused) → log ≡ past → Tells past step (Err cause) log
refusal_tells step cause same = grind (arith, same)

-- what a step adds to the log is what its outcome tells
pub goes_tells : (old : Situation) (step : Step) (outcome : Result Reply Refused) (new : Situation) → Invariant old → Goes old step outcome new → Tells old.log step outcome new.log
goes_tells old (Ask core on word asking) (Ok answer) new g goes = elim goes.1.moves [
  | inl absent ↦ rw (absent.0, absent.2, absent.3) refl
  | inr a ↦ rw a.after (subst (λ b. Tells old.log (Ask core b word asking) (Ok answer) (old.log ++ option_to_list a.entry)) (sym goes.1.on_block)
      (taken_tells old.protocol _ _ _ _ _ (held_by (picture_of old goes.0) core) _ _ _ asking a.row.action a.is_row a.taken))
]
goes_tells old (Order core) (Ok answer) new g goes = rw goes.1.answered (goes.0, ap (λ (s : Situation). s.log) goes.1.orders.after)
goes_tells old (Respond on) (Ok answer) new g goes =
    let m = goes.1 in
    let told : IfSome m.did (λ d. (d.core ≡ m.closing.core) × (d.block ≡ m.closing.block) × (d.hit ≡ false)) =
    elim (by_request m.closing.request m.responds.requestor) [ inl put ↦ rw put.2 tt | inr (_, fills) ↦ rw fills.logged (refl, refl, refl) ] in
    rw (m.answered, m.on_block, ← g.opened goes.0 m.closing m.responds.opened) (m.closing.core, (m.closing.request, ap (λ (s : Situation). s.log) m.responds.after, told))
goes_tells old step (Err cause) new g goes = refusal_tells step cause (ap (λ (s : Situation). s.log) (refusal_same old step cause new goes))

-- a run's history is what its outcomes tell
pub run_tells : (steps : List Step) (outcomes : List (Result Reply Refused)) (old new : Situation) → Invariant old → RunBy Goes old steps outcomes new → RunBy Tells old.log steps outcomes new.log
run_tells [] [] old new g run = ap (λ (s : Situation). s.log) run
run_tells (step ∷ steps) (outcome ∷ outcomes) old new g run =
    let rest = run_tells steps outcomes run.0 new (goes_kept Invariant move_keeps old step outcome run.0 g run.1.0) run.1.1 in
    (run.0.log, (goes_tells old step outcome run.0 g run.1.0, rest))
run_tells _ _ old new g run = absurd run

-- so does a move on the first block
pub move_tells : (old new : Situation) (step : Step) (answer : Reply) → Invariant old → FirstMove old step answer new → Tells old.log step (Ok answer) new.log
move_tells old new step answer g m = goes_tells old step (Ok answer) new g (m.0, m.1.1)
