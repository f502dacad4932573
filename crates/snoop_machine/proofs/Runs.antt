-- What each step of a machine keeps, and one more of the steps that a machine takes.
use Rattle.snoop_machine.proofs.Common.{◌≡◌, ℕ, List, refl, ap, Result, Ok, Err, IfOk, IfErr, Step, MachineKeeps, FirstMove, RefusedFor, RunBy, Refused, NoMemory, Reply, HoldsOn, IsFull, Answers, AnswersSafely, Standing, KeepsRoom, move_keeps_all, kept_along, ◌<◌, take, length, get_or, ◌+◌, [], ◌∷◌, ◌++◌, arith, is_ok, count_by, take_more, Invariant, Goes, HasRun, is_safe, run_more, seen_along, common_steps}
use Rattle.snoop_model.{proofs.Runs.Replies.{alike_on, IsAlike, move_stays, move_tells, refusal_tells, same_alike}, specs.Moves.Replies.Tells}
use Rattle.snoop_model.proofs.Once.{run_once}

module _ (old new : Standing) (step : Step) where
  -- what a machine's step answers
  pub answers : (result : Result Reply Refused) → IfOk result (λ reply. FirstMove old.situation step reply new.situation)
      → IfErr result (λ cause. RefusedFor old.situation step cause × (new ≡ old)) → (result ≡ Err NoMemory → IsFull old step) → KeepsRoom old new
      → ((core : ℕ) → HoldsOn old new step core) → Answers old step result new
  answers result taken refused full room lines = grind arith

  -- a step, taken or refused, leaves the protocol and the shape
  pub step_stays : (outcome : Result Reply Refused) → Answers old step outcome new → IsAlike old.situation new.situation
  step_stays (Ok answer) a = move_stays old.situation new.situation step answer a.0
  step_stays (Err cause) a = same_alike old.situation new.situation (ap (λ (s : Standing). s.situation) a.2)

  -- its outcome tells what it adds to the history
  pub step_tells : (outcome : Result Reply Refused) → MachineKeeps old.situation → Answers old step outcome new → Tells old.situation.log step outcome new.situation.log
  step_tells (Ok answer) keeps a = move_tells old.situation new.situation step answer keeps.inductive a.0
  step_tells (Err cause) keeps a = refusal_tells step cause (ap (λ (s : Standing). s.situation.log) a.2)

  -- it keeps what every machine keeps
  pub step_keeps : (outcome : Result Reply Refused) → MachineKeeps old.situation → Answers old step outcome new → MachineKeeps new.situation
  step_keeps (Ok answer) keeps a = move_keeps_all a.0.0 old.situation new.situation step answer keeps a.0.1.1
  step_keeps (Err cause) keeps a = rw a.2 keeps

-- steps in order leave the protocol and the shape
pub steps_stay : (steps : List Step) (outcomes : List (Result Reply Refused)) (old new : Standing) → RunBy AnswersSafely old steps outcomes new → IsAlike old.situation new.situation
steps_stay steps outcomes old new =
    kept_along AnswersSafely (λ (s : Standing). IsAlike old.situation s.situation) (λ s step outcome t far goes. alike_on old.situation s.situation t.situation far
    (step_stays s t step outcome goes.0)) steps outcomes old new (refl, refl)

-- the steps so far
pub record Going (old : Standing) (steps : List Step) (taken : ℕ) (new : Standing) : Type 0 where
  pub outcomes : List (Result Reply Refused)
  pub run : RunBy AnswersSafely old steps outcomes new
  pub many : taken ≡ count_by is_ok outcomes
  pub keeps : MachineKeeps new.situation

-- one step more of a list
pub goes_on : (old middle new : Standing) (steps : List Step) (i : ℕ) (d : Step) (taken : ℕ) (result : Result Reply Refused) → i < length steps
    → Going old (take i steps) taken middle
    → Answers middle (get_or steps i d) result new → (count : ℕ) → count ≡ taken + count_by is_ok (result ∷ []) → Going old (take (i + 1) steps) count new
goes_on old middle new steps i d taken result within so_far goes count more =
    let keeps = step_keeps middle new (get_or steps i d) result so_far.keeps goes in
    let was = so_far.many in
    rw (take_more steps i d within) (record {
      outcomes = so_far.outcomes ++ result ∷ [];
      run = run_more AnswersSafely (take i steps) so_far.outcomes old middle new (get_or steps i d) result so_far.run (goes, is_safe new.situation keeps);
      many = grind (arith, common_steps, more, was);
      keeps = keeps;
    })

goes_so : (old : Standing) (step : Step) (outcome : Result Reply Refused) (new : Standing) → AnswersSafely old step outcome new → Goes old.situation step outcome new.situation
goes_so old step (Ok answer) new a = (a.0.0.0, a.0.0.1.1)
goes_so old step (Err NoMemory) new a = ap (λ (s : Standing). s.situation) a.0.2
goes_so old step (Err cause) new a = (a.0.0, ap (λ (s : Standing). s.situation) a.0.2)

-- they are a run, in which each Order is on the block that stands first
pub has_run : (old new : Standing) (steps : List Step) (taken : ℕ) → Invariant old.situation → Going old steps taken new → HasRun old steps taken new
has_run old new steps taken g r = record {
  outcomes = r.outcomes;
  run = r.run;
  many = r.many;
  once = run_once steps r.outcomes old.situation new.situation g (seen_along AnswersSafely Goes (λ s. s.situation) goes_so steps r.outcomes old new r.run);
}
