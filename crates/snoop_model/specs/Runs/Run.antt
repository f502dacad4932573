-- Whole runs from reset.
-- Source: this project's profile.
use Rattle.std.specs.Prelude.{◌≡◌, ℕ, List, [], ◌∷◌, ◌++◌, map, Result, Ok, Err}
use Rattle.snoop_trace.specs.{Extent.Extent, declared.{step.Step.Step, protocol.Protocol.Protocol}}
use Rattle.snoop_model.specs.{declared.replies.{Reply.Reply, Refused.{Refused, TheVariants.NoMemory}}, Pictures.Situation.{Situation, reset}}
use Rattle.snoop_model.specs.Moves.{Move.{MoveOn, FirstMove}, Refuses.Refuses}

-- one step of a run: a move, an Order being on any block, or a refusal, which leaves all as it was; any step may be refused as out of memory
abbrev pub Goes : Situation → Step → Result Reply Refused → Situation → Type 0
Goes old step (Ok answer) new = (block : ℕ) × MoveOn block old step answer new
Goes old step (Err NoMemory) new = new ≡ old
Goes old step (Err cause) new = Refuses old step cause × (new ≡ old)

-- from old, these steps with these outcomes lead to new, each as `One` says of a step
abbrev pub RunBy : {A : Type 0} → (A → Step → Result Reply Refused → A → Type 0) → A → List Step → List (Result Reply Refused) → A → Type 0
RunBy One old [] [] new = new ≡ old
RunBy {A} One old (step ∷ steps) (outcome ∷ outcomes) new = (middle : A) × (One old step outcome middle × RunBy One middle steps outcomes new)
RunBy One old _ _ new = ⊥

-- one step of the run of some steps: each Order is on the block that stands first, and memory is ample
abbrev pub GoesFirst : Situation → Step → Result Reply Refused → Situation → Type 0
GoesFirst old step (Ok answer) new = FirstMove old step answer new
GoesFirst old step (Err cause) new = Refuses old step cause × (new ≡ old)

-- from old, these steps with these outcomes lead to new, each as `GoesFirst` says
abbrev pub FirstRunFrom : Situation → List Step → List (Result Reply Refused) → Situation → Type 0
FirstRunFrom old steps outcomes new = RunBy GoesFirst old steps outcomes new

-- the run of these steps from reset
abbrev pub TheRun : Protocol → Extent → List Step → List (Result Reply Refused) → Situation → Type 0
TheRun protocol shape steps outcomes new = FirstRunFrom (reset protocol shape) steps outcomes new

-- the run of these steps from reset, each of them taken
abbrev pub AllTaken : Protocol → Extent → List Step → Situation → Type 0
AllTaken protocol shape steps new = (replies : List Reply) × TheRun protocol shape steps (map (λ reply. Ok reply) replies) new

-- a fact about every run from reset: the protocol, the shape, the steps, their outcomes, and where they lead
abbrev pub EveryRun : (Protocol → Extent → List Step → List (Result Reply Refused) → Situation → Type 0) → Type 0
EveryRun P =
    (protocol : Protocol) (shape : Extent) (steps : List Step) (outcomes : List (Result Reply Refused)) (new : Situation) →
    RunBy Goes (reset protocol shape) steps outcomes new → P protocol shape steps outcomes new

-- the run of some steps is a run
abbrev pub TheRunIsARun : Type 0
TheRunIsARun =
    (protocol : Protocol) (shape : Extent) (steps : List Step) (outcomes : List (Result Reply Refused)) (new : Situation) →
    TheRun protocol shape steps outcomes new → RunBy Goes (reset protocol shape) steps outcomes new

-- from where the run of some steps has led, any further steps have a run too
abbrev pub RunsGoOn : Type 0
RunsGoOn =
    (protocol : Protocol) (shape : Extent) (steps further : List Step) (outcomes : List (Result Reply Refused)) (reached : Situation) →
    TheRun protocol shape steps outcomes reached →
    (more : List (Result Reply Refused)) × ((final : Situation) × FirstRunFrom reached further more final)

-- the run of some steps is the only one
abbrev pub RunsAreOne : Type 0
RunsAreOne =
    (protocol : Protocol) (shape : Extent) (steps : List Step) (outcomes others : List (Result Reply Refused)) (final end : Situation) →
    TheRun protocol shape steps outcomes final → TheRun protocol shape steps others end → (outcomes ≡ others) × (final ≡ end)

-- a run begins at reset, with no steps
abbrev pub TakenBegins : Type 0
TakenBegins = (protocol : Protocol) (shape : Extent) → AllTaken protocol shape [] (reset protocol shape)

-- one more step that is taken
abbrev pub TakenGoesOn : Type 0
TakenGoesOn =
    (protocol : Protocol) (shape : Extent) (steps : List Step) (step : Step) (answer : Reply) (middle new : Situation)
    → AllTaken protocol shape steps middle → FirstMove middle step answer new → AllTaken protocol shape (steps ++ step ∷ []) new
