-- What the steps of some frames come to, computed one after another.
use Rattle.std.proofs.Common.{◌≡◌, List, [], ◌∷◌}
pub use Rattle.std.proofs.Common.{refl}
use Rattle.snoop_trace.specs.{Extent.Extent, declared.{step.Step.Step, protocol.Protocol.Protocol}}
use Rattle.snoop_model.{proofs.{Queues.keeps_well, Steps.next_of}, specs.{Pictures.Situation.{reset, Situation}, Runs.Run.FirstRunFrom}}
use Rattle.snoop_model.proofs.{Runs.GoOn.{IsSteady, reset_steady, steady_on}, Steps.goes_next}
use Rattle.snoop_scenes.specs.Scene.{Frame, steps_of, outcomes_of, controllers, PassesFrom, IsPlayed}

-- the frames of the steps, and where they lead
abbrev pub frames_from : Situation → List Step → List Frame
frames_from old [] = []
frames_from old (step ∷ steps) = let next = next_of old step in ((step, next.0), controllers next.1.pictures) ∷ frames_from next.1 steps

abbrev pub end_from : Situation → List Step → Situation
end_from old [] = old
end_from old (step ∷ steps) = end_from (next_of old step).1 steps

-- the steps have this run, which passes through these frames
abbrev Plays : Situation → List Step → List Frame → Situation → Type 0
Plays old steps frames end = FirstRunFrom old steps (outcomes_of frames) end × PassesFrom old frames end

plays : (old : Situation) → IsSteady old → (steps : List Step) → Plays old steps (frames_from old steps) (end_from old steps)
plays old steady [] = (refl, refl)
plays old steady (step ∷ steps) =
    let next = next_of old step in
    let goes = goes_next old steady.0 steady.1.queued step in
    let rest = plays next.1 (steady_on keeps_well old step next.0 next.1 steady goes) steps in
    ((next.1, (goes, rest.0)), (next.1, (goes, refl, rest.1)))

-- the steps of these frames come to these frames, and to this end
pub told : {protocol : Protocol} {shape : Extent} {frames : List Frame} {end : Situation}
    → frames_from (reset protocol shape) (steps_of frames) ≡ frames → end_from (reset protocol shape) (steps_of frames) ≡ end
    → IsPlayed protocol shape frames end
told {protocol} {shape} {frames} {end} same leads =
    let played = plays (reset protocol shape) (reset_steady protocol shape) (steps_of frames) in
    let here : Plays (reset protocol shape) (steps_of frames) frames end = rw (same, leads) at played in
    record { run = here.0; states = here.1 }
