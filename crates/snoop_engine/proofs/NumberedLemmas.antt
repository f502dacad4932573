-- Frames with their numbers, when one frame more is seen.
use Rattle.snoop_engine.proofs.Common.{common_steps, ◌≡◌, ℕ, ◌+◌, List, [], ◌∷◌, ◌++◌, length, refl, arith, Situation, Frame, Numbered, led_to, numbered_from}

-- a frame with its number
abbrev pub numbered : ℕ → Frame → Numbered
numbered number frame = record { number = number; frame = frame }

-- one frame more
pub numbered_on : (number : ℕ) (frames : List Frame) (frame : Frame) → numbered_from number (frames ++ frame ∷ []) ≡ numbered_from number frames ++ numbered (number + length frames) frame ∷ []
numbered_on number [] frame = grind (arith, common_steps)
numbered_on number (f ∷ fs) frame = grind (arith, common_steps, numbered_on (number + 1) fs frame)

-- where one frame more leads
pub led_on : (here : Situation) (frames : List Frame) (frame : Frame) → led_to here (frames ++ frame ∷ []) ≡ frame.after
led_on here [] frame = refl
led_on here (f ∷ fs) frame = led_on f.after fs frame
