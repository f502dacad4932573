-- What views show of frames: of each by its number, or nothing before the end; their counts, and their states.
use Rattle.snoop_engine.proofs.Common.{common_steps, ◌≡◌, ℕ, ◌+◌, List, [], ◌∷◌, ◌++◌, length, refl, ap, arith, flat_map, length_push, Situation, Frame, Numbered, numbered_from, shown, view_text, flat_map_more, Protocol, all_lines, counts_text, frames_counts_text, lines_of_step, Tallies, counts_in, memory_counts_in, true, false, Chosen, is_shown, shown_text, step_fields, taken_text, IsNextSeen, frame_seen, Seen}

-- what is shown of each frame by its number
pub shown_numbered : (shows : ℕ → Frame → List ℕ) (before frames : List Frame)
    → shown (λ (seen : List Frame) (frame : Frame). shows (1 + length seen) frame) before frames ≡ flat_map (λ (n : Numbered). shows n.number n.frame) (numbered_from (1 + length before) frames)
shown_numbered shows before [] = refl
shown_numbered shows before (frame ∷ frames) = grind (arith, common_steps, length_push before frame, shown_numbered shows (before ++ frame ∷ []) frames)

-- nothing is shown
pub nothing_shown : (before frames : List Frame) → shown (λ (fs : List Frame) (f : Frame). []) before frames ≡ []
nothing_shown before [] = refl
nothing_shown before (f ∷ fs) = nothing_shown (before ++ f ∷ []) fs

-- all that such a view writes is its ending
pub quiet_view : (ending : List Frame → Situation → List ℕ) (frames : List Frame) (final : Situation) → view_text [] (λ (fs : List Frame) (f : Frame). []) ending frames final ≡ ending frames final
quiet_view ending frames final = ap (λ (t : List ℕ). t ++ ending frames final) (nothing_shown [] frames)

-- the lines of one frame more
pub all_lines_more : (frames : List Frame) (frame : Frame) → all_lines frames ++ lines_of_step frame.before frame.step frame.outcome ≡ all_lines (frames ++ frame ∷ [])
all_lines_more frames frame = flat_map_more (λ (f : Frame). lines_of_step f.before f.step f.outcome) [] frames frame

-- the text of the counters is that of the frames
pub text_of_frames : (protocol : Protocol) (frames : List Frame) (counters : List ℕ) → Tallies counters (all_lines frames)
    → counts_text protocol (counts_in counters) (memory_counts_in counters) ≡ frames_counts_text protocol frames
text_of_frames protocol frames counters counted = λ i. counts_text protocol (λ state event. counted.cores state event i) (λ state event. counted.memory state event i)

-- what is written of a step that is seen
module _ (choice : Chosen) (frames : List Frame) (before : Situation) (seen : Seen) (after : Situation) (next : IsNextSeen after.protocol after.shape frames before seen after) where
  pub text_shown : is_shown choice seen.block seen.number ≡ true
      → flat_map (λ taken. step_fields after.shape seen.number seen.step seen.outcome ++ taken_text after taken) seen.lines.now ≡ shown_text after.shape choice (1 + length frames) (frame_seen before seen after)
  text_shown here = rw (next.lines, next.number, rw (next.block, next.number) at here)

  pub text_hidden : is_shown choice seen.block seen.number ≡ false → [] ≡ shown_text after.shape choice (1 + length frames) (frame_seen before seen after)
  text_hidden other = rw (rw (next.block, next.number) at other)
