-- What goes along a run, whatever is said of one step.
use Rattle.snoop_model.proofs.Common.{[], ap, List, refl, Refused, Reply, Result, RunBy, Step, subst, sym, ◌++◌, ◌∷◌}

module _ {A : Type 0} (One : A → Step → Result Reply Refused → A → Type 0) where
  -- what each step keeps, a run keeps
  pub kept_along : (P : A → Type 0) → ((old : A) (step : Step) (outcome : Result Reply Refused) (new : A) → P old → One old step outcome new → P new)
      → (steps : List Step) (outcomes : List (Result Reply Refused)) (old new : A) → P old → RunBy One old steps outcomes new → P new
  kept_along P keeps [] [] old new holds run = subst P (sym run) holds
  kept_along P keeps (step ∷ steps) (outcome ∷ outcomes) old new holds run =
      kept_along P keeps steps outcomes run.0 new (keeps old step outcome run.0 holds run.1.0) run.1.1
  kept_along P keeps _ _ old new holds run = absurd run

  -- a run, and one more step
  pub run_more : (steps : List Step) (outcomes : List (Result Reply Refused)) (old middle new : A) (step : Step) (outcome : Result Reply Refused) → RunBy One old steps outcomes middle → One middle step outcome new
      → RunBy One old (steps ++ step ∷ []) (outcomes ++ outcome ∷ []) new
  run_more [] [] old middle new step outcome run one = (new, (subst (λ s. One s step outcome new) run one, refl))
  run_more (first ∷ steps) (had ∷ outcomes) old middle new step outcome run one = (run.0, (run.1.0, run_more steps outcomes run.0 middle new step outcome run.1.1 one))
  run_more _ _ old middle new step outcome run one = absurd run

-- a run is one of what is seen of it, where each step is
pub seen_along : {A B : Type 0} (One : A → Step → Result Reply Refused → A → Type 0) (Other : B → Step → Result Reply Refused → B → Type 0) (see : A → B)
    → ((old : A) (step : Step) (outcome : Result Reply Refused) (new : A) → One old step outcome new → Other (see old) step outcome (see new))
    → (steps : List Step) (outcomes : List (Result Reply Refused)) (old new : A) → RunBy One old steps outcomes new → RunBy Other (see old) steps outcomes (see new)
seen_along One Other see each [] [] old new run = ap see run
seen_along One Other see each (step ∷ steps) (outcome ∷ outcomes) old new run =
    (see run.0, (each old step outcome run.0 run.1.0, seen_along One Other see each steps outcomes run.0 new run.1.1))
seen_along One Other see each _ _ old new run = absurd run
