-- How far a course has come: the frames of its steps, and the text of these, which was written or stands in the chunk.
use Rattle.snoop_engine.proofs.Common.{◌≡◌, List, [], ◌∷◌, ◌++◌, Option, refl, sym, append_assoc, append-nil, map-append, Result, ℕ, Extent, Gathers, Spills, Protocol, Step, Reply, Refused, Situation, reset, GoesFirst, appends_none, gathers_more, gathers_spilled, CanEnd, CanEndFrom, LeadsToEndWith, Leading, LeadsOn, Frame, FramesFrom, outcomes_of, steps_of}
use Rattle.snoop_engine.proofs.TakenLemmas.{frames_on, frames_run}

-- what leads on from here leads on from the first place too, after these steps
abbrev pub LeadsFrom : Leading → Leading → List Step → List (Result Reply Refused) → Type 0
LeadsFrom first now steps outcomes =
    (rest : List Step) (more : List (Result Reply Refused)) (final : Situation) → now rest more final → first (steps ++ rest) (outcomes ++ more) final

pub leads_more : (first now next : Leading) (steps : List Step) (outcomes : List (Result Reply Refused)) (step : Step) (outcome : Result Reply Refused)
    → LeadsFrom first now steps outcomes → LeadsOn now step outcome next → LeadsFrom first next (steps ++ step ∷ []) (outcomes ++ outcome ∷ [])
leads_more first now next steps outcomes step outcome far on rest more final h =
    rw (append_assoc steps (step ∷ []) rest, append_assoc outcomes (outcome ∷ []) more) (far (step ∷ rest) (outcome ∷ more) final (on rest more final h))

-- a course has come from reset to here and can go on to its end; this holds of the frames so far, and their text was written or stands in the chunk
pub record Gathering (protocol : Protocol) (shape : Extent) (text : List Frame → List ℕ) (holds : List Frame → Type 0) (first now : Leading)
    (here : Situation) (old new : Option (List ℕ)) (chunk : List ℕ) : Type 0 where
  pub frames : List Frame
  pub run : FramesFrom (reset protocol shape) frames here
  pub leads : LeadsFrom first now (steps_of frames) (outcomes_of frames)
  pub can_end : CanEnd now
  pub held : holds frames
  pub lines : Gathers old new chunk (text frames)

pub gathering_none : (protocol : Protocol) (shape : Extent) (text : List Frame → List ℕ) (holds : List Frame → Type 0)
    (first : Leading) (here : Situation) (a : Option (List ℕ)) (chunk : List ℕ)
    → here ≡ reset protocol shape → CanEnd first → holds [] → chunk ≡ text [] → Gathering protocol shape text holds first first here a a chunk
gathering_none protocol shape text holds first here a chunk at end held e =
    let lines : Gathers a a chunk (text []) = record { front = []; appends = appends_none a; whole = sym e } in
    record { frames = []; run = at; leads = λ rest more final h. h; can_end = end; held = held; lines = lines }

module _ {protocol : Protocol} {shape : Extent} {text : List Frame → List ℕ} {holds : List Frame → Type 0} {first now : Leading}
    {here : Situation} {a b : Option (List ℕ)} {chunk : List ℕ}
    (far : Gathering protocol shape text holds first now here a b chunk) where
  -- one more step
  module _ (step : Step) (outcome : Result Reply Refused) (after : Situation) where
    abbrev pub longer : List Frame
    longer = far.frames ++ record { step = step; outcome = outcome; before = here; after = after } ∷ []

    pub gathering_more : (holds_then : List Frame → Type 0) (next : Leading) (piece grown : List ℕ)
        → GoesFirst here step outcome after → LeadsOn now step outcome next
        → CanEndFrom after next
        → holds_then longer → text longer ≡ text far.frames ++ piece → grown ≡ chunk ++ piece → Gathering protocol shape text holds_then first next after a b grown
    gathering_more holds_then next piece grown goes on can_end held grows e =
        let run : FramesFrom (reset protocol shape) longer after =
        frames_on far.frames _ (reset protocol shape) here after far.run (record { before = refl; goes = goes }, refl) in
        let leads = leads_more first now next (steps_of far.frames) (outcomes_of far.frames) step outcome far.leads on in
        record {
          frames = longer;
          run = run;
          leads = rw (map-append (λ (f : Frame). f.step) far.frames _, map-append (λ (f : Frame). f.outcome) far.frames _) leads;
          can_end = can_end protocol shape (steps_of longer) (outcomes_of longer) (frames_run longer (reset protocol shape) after run);
          held = held;
          lines = rw grows (gathers_more a b chunk grown _ piece far.lines e);
        }

  -- some of the chunk was written
  pub gathering_spilled : (c : Option (List ℕ)) (left : List ℕ) → Spills b chunk c left → Gathering protocol shape text holds first now here a c left
  gathering_spilled c left spills =
      record { frames = far.frames; run = far.run; leads = far.leads; can_end = far.can_end; held = far.held; lines = gathers_spilled a b c chunk left _ far.lines spills }

  -- what holds of these steps and then others to the end
  pub ends_on : (all : Leading) → (let end = far.can_end in all (steps_of far.frames ++ end.steps) (outcomes_of far.frames ++ end.outcomes) end.final)
      → LeadsToEndWith first all
  ends_on all holds =
      let end = far.can_end in
      let way = far.leads end.steps end.outcomes end.final end.way in
      record { steps = steps_of far.frames ++ end.steps; outcomes = outcomes_of far.frames ++ end.outcomes; final = end.final; way = way; holds = holds }

  -- what holds of these steps, which are all
  pub ends_here : (all : Leading) → now [] [] here → all (steps_of far.frames) (outcomes_of far.frames) here → LeadsToEndWith first all
  ends_here all over holds =
      let way = rw (append-nil (steps_of far.frames), append-nil (outcomes_of far.frames)) at (far.leads [] [] here over) in
      record { steps = steps_of far.frames; outcomes = outcomes_of far.frames; final = here; way = way; holds = holds }
