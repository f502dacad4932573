-- Steps and runs: what they keep, and one step more; frames, as a run and one after another.
use Rattle.snoop_engine.proofs.Common.{◌≡◌, List, [], ◌∷◌, ◌++◌, refl, ap, Result, Ok, Err, Step, Reply, Refused, Situation, reset, FirstMove, FirstRunFrom, GoesFirst, Frame, FramesAreTheRun, FramesFrom, outcomes_of, steps_of}
use Rattle.snoop_model.proofs.Runs.Along as along
use Rattle.snoop_model.proofs.Runs.Replies.{IsAlike, alike_on, move_stays, same_alike}

-- a step keeps the shape
pub same_shape : (s t : Situation) (step : Step) (answer : Reply) → FirstMove s step answer t → t.shape ≡ s.shape
same_shape s t step answer m = (move_stays s t step answer m).1

-- a step, taken or refused, keeps the protocol and the shape
pub goes_alike : (s : Situation) (step : Step) (outcome : Result Reply Refused) (t : Situation) → GoesFirst s step outcome t → IsAlike s t
goes_alike s step (Ok answer) t goes = move_stays s t step answer goes
goes_alike s step (Err cause) t goes = same_alike s t goes.1

-- one more step of a run
pub run_more : (steps : List Step) (outcomes : List (Result Reply Refused)) (old middle new : Situation) (step : Step) (outcome : Result Reply Refused)
    → FirstRunFrom old steps outcomes middle → GoesFirst middle step outcome new → FirstRunFrom old (steps ++ step ∷ []) (outcomes ++ outcome ∷ []) new
run_more = along.run_more GoesFirst

-- frames are a run
pub frames_run : (frames : List Frame) (old new : Situation) → FramesFrom old frames new → FirstRunFrom old (steps_of frames) (outcomes_of frames) new
frames_run [] old new run = run
frames_run (f ∷ fs) old new run = (f.after, (rw run.0.before at run.0.goes, frames_run fs f.after new run.1))

pub are_the_run : FramesAreTheRun
are_the_run protocol shape steps frames final are = rw are.whole at (frames_run frames (reset protocol shape) final are.run)

-- a run has its frames
pub framed : (steps : List Step) (outcomes : List (Result Reply Refused)) (old new : Situation) → FirstRunFrom old steps outcomes new → (frames : List Frame) × ((steps_of frames ≡ steps) × FramesFrom old frames new)
framed [] [] old new run = ([], (refl, run))
framed (s ∷ ss) (o ∷ os) old new run =
    let rest = framed ss os run.0 new run.1.1 in
    let frame : Frame = record { step = s; outcome = o; before = old; after = run.0 } in
    (frame ∷ rest.0, (ap (λ (l : List Step). s ∷ l) rest.1.0, (record { before = refl; goes = run.1.0 }, rest.1.1)))
framed _ _ old new run = absurd run

-- frames, and then frames from where they led
pub frames_on : (first rest : List Frame) (old middle new : Situation) → FramesFrom old first middle → FramesFrom middle rest new → FramesFrom old (first ++ rest) new
frames_on [] rest old middle new run later = rw run at later
frames_on (f ∷ fs) rest old middle new run later = (run.0, frames_on fs rest f.after middle new run.1 later)

-- frames keep the protocol and the shape
pub frames_keep : (frames : List Frame) (old new : Situation) → FramesFrom old frames new → (new.protocol ≡ old.protocol) × (new.shape ≡ old.shape)
frames_keep [] old new run = same_alike old new run
frames_keep (f ∷ fs) old new run =
    alike_on old f.after new (rw run.0.before at (goes_alike f.before f.step f.outcome f.after run.0.goes)) (frames_keep fs f.after new run.1)
