-- Frames of a run with the numbers of their steps, and where they lead to.
-- Source: this project's profile.
use Rattle.std.specs.Prelude.{ℕ, ◌+◌, List, [], ◌∷◌}
use Rattle.snoop_model.specs.Pictures.Situation.{Situation}
use Rattle.snoop_engine.specs.Frames.{Frame}

-- a frame, and the number of its step
pub record Numbered : Type 0 where
  pub number : ℕ
  pub frame : Frame

-- frames with the numbers of their steps, the first of which has this number
abbrev pub numbered_from : ℕ → List Frame → List Numbered
numbered_from number [] = []
numbered_from number (frame ∷ frames) = record { number = number; frame = frame } ∷ numbered_from (number + 1) frames

-- where frames lead to
abbrev pub led_to : Situation → List Frame → Situation
led_to here [] = here
led_to here (frame ∷ frames) = led_to frame.after frames
