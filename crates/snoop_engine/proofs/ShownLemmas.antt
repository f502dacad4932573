-- The frames that a view was shown: what was written of them, or stands in the chunk.
use Rattle.snoop_engine.proofs.Common.{map-append, ◌≡◌, ℕ, ◌+◌, List, [], ◌∷◌, ◌++◌, length, length-append, Option, refl, ◌∙◌, append_assoc, append-nil, arith, Result, Ok, Err, IsErrAnd, subst, Appends, Extent, AppendsFront, Step, Protocol, WriteFault, gathers_cut, gathers_done, gathers_more, gathers_stop, appends_none_of, Situation, reset, GoesFirst, runs_go_on, CanEnd, CanEndFrom, LeadsToEndWith, Leading, LeadsOn, fault_of_write, AreFrames, Frame, FramesFrom, Gathers, GivesSteps, lines_of_step, IsNextSeen, block_of_step, frame_seen, shown, view_text, SimFault, Seen, steps_of, outcomes_of}
use Rattle.snoop_trace.specs.declared.fault.WriteFault.TheVariants as write
use Rattle.snoop_engine.specs.{SimulatedView.{BeginsToShow, ShowsRun, SimulatesView}, declared.{input.Input.Input, fault.SimFault.TheVariants.Text}}
use Rattle.snoop_engine.proofs.{Gathering.{Gathering, gathering_more, ends_here, ends_on}, TrueLines.lines_fit}
use Rattle.snoop_engine.proofs.TakenLemmas.{are_the_run, framed, frames_keep, frames_on, frames_run, goes_alike}

-- what is shown of more frames comes after what is shown of the first
shown_on : (shows : List Frame → Frame → List ℕ) (before first rest : List Frame) → shown shows before (first ++ rest) ≡ shown shows before first ++ shown shows (before ++ first) rest
shown_on shows before [] rest = rw (append-nil before)
shown_on shows before (f ∷ fs) rest = rw (shown_on shows (before ++ f ∷ []) fs rest) (simp append_assoc)

-- what is shown of frames that are a run
module _ {protocol : Protocol} {shape : Extent} {text : List Frame → Situation → List ℕ} {steps : List Step} {frames : List Frame} {final : Situation} (are : AreFrames protocol shape steps frames final) {a b : Option (List ℕ)} where
  shows_run : Appends a b (text frames final) → ShowsRun protocol shape text steps a b
  shows_run output = record { frames = frames; final = final; run = are; taken = are_the_run protocol shape steps frames final are; rows = lines_fit protocol shape frames final are.run; output = output }

  begins_to_show : AppendsFront a b (text frames final) → BeginsToShow protocol shape text steps a b
  begins_to_show output = record { frames = frames; final = final; run = are; taken = are_the_run protocol shape steps frames final are; rows = lines_fit protocol shape frames final are.run; output = output }

-- the same text in other words
module _ {protocol : Protocol} {shape : Extent} {steps : List Step} {one other : List Frame → Situation → List ℕ} {a b : Option (List ℕ)}
    (same : (frames : List Frame) (final : Situation) → AreFrames protocol shape steps frames final → one frames final ≡ other frames final) where
  pub shown_so : ShowsRun protocol shape one steps a b → ShowsRun protocol shape other steps a b
  shown_so h = shows_run h.run (rw (same h.frames h.final h.run) at h.output)

  pub begun_so : BeginsToShow protocol shape one steps a b → BeginsToShow protocol shape other steps a b
  begun_so h = begins_to_show h.run (rw (same h.frames h.final h.run) at h.output)

module _ (protocol : Protocol) (shape : Extent) (heading : List ℕ) (shows : List Frame → Frame → List ℕ) (ending : List Frame → Situation → List ℕ) where
  -- some frames were shown, and the run goes on
  begins_on : (left : List Step) (frames : List Frame) (to : Situation) (a b : Option (List ℕ)) → FramesFrom (reset protocol shape) frames to
      → ((rest : List ℕ) → AppendsFront a b ((heading ++ shown shows [] frames) ++ rest)) → BeginsToShow protocol shape (view_text heading shows ending) (steps_of frames ++ left) a b
  begins_on left frames to a b run cut =
      let further = runs_go_on protocol shape (steps_of frames) left (outcomes_of frames) to (frames_run frames (reset protocol shape) to run) in
      let more = framed left further.0 to further.1.0 further.1.1 in
      let all : AreFrames protocol shape (steps_of frames ++ left) (frames ++ more.0) further.1.0 =
      record { whole = rw (map-append (λ (f : Frame). f.step) frames more.0, more.1.0); run = frames_on frames more.0 (reset protocol shape) to further.1.0 run more.1.1 } in
      begins_to_show all (simp (shown_on shows [] frames more.0, append_assoc) (simp append_assoc at (cut (shown shows frames more.0 ++ ending (frames ++ more.0) further.1.0))))

  -- nothing was written
  pub begins_nothing : (steps : List Step) (a : Option (List ℕ)) → BeginsToShow protocol shape (view_text heading shows ending) steps a a
  begins_nothing steps a = begins_on steps [] (reset protocol shape) a a refl (λ rest. appends_none_of a ((heading ++ []) ++ rest))

-- nothing was written, and the course can go on to its end
pub ends_with_nothing : (protocol : Protocol) (shape : Extent) (heading : List ℕ) (shows : List Frame → Frame → List ℕ) (ending : List Frame → Situation → List ℕ) (leads : Leading) → CanEnd leads
    → (a : Option (List ℕ)) → LeadsToEndWith leads (λ steps _ _. BeginsToShow protocol shape (view_text heading shows ending) steps a a)
ends_with_nothing protocol shape heading shows ending leads end a =
    record { steps = end.steps; outcomes = end.outcomes; final = end.final; way = end.way; holds = begins_nothing protocol shape heading shows ending end.steps a }

-- so many steps of a course were taken and seen, and what was shown of them was written or stands in the chunk
pub record Showing (protocol : Protocol) (shape : Extent) (heading : Protocol → Extent → List ℕ) (shows : Protocol → Extent → List Frame → Frame → List ℕ) (seen : Protocol → Extent → List Frame → Type 0)
    (number : ℕ) (first now : Leading) (to : Situation) (old new : Option (List ℕ)) (chunk : List ℕ) : Type 0 where
  pub so_far : Gathering protocol shape (λ frames. heading protocol shape ++ shown (shows protocol shape) [] frames) (λ frames. (number ≡ length frames) × seen protocol shape frames) first now to old new chunk

module _ {protocol : Protocol} {shape : Extent} {heading : Protocol → Extent → List ℕ} {shows : Protocol → Extent → List Frame → Frame → List ℕ} {seen : Protocol → Extent → List Frame → Type 0} {number : ℕ} {first now : Leading} {to : Situation}
    {a b : Option (List ℕ)} {chunk : List ℕ} (far : Showing protocol shape heading shows seen number first now to a b chunk) where
  -- what the view does with a step
  abbrev pub Sees : (Protocol → Extent → List Frame → Type 0) → Seen → Situation → List ℕ → Protocol → Extent → Type 0
  Sees after_it what after grown p s =
      (frames : List Frame) (before : Situation) → seen p s frames → IsNextSeen p s frames before what after
      → after_it p s (frames ++ frame_seen before what after ∷ []) × (grown ≡ chunk ++ shows p s frames (frame_seen before what after))

  -- one more step
  pub showing_more : (after_it : Protocol → Extent → List Frame → Type 0) (next : Leading) (what : Seen) (after : Situation) (grown : List ℕ) → what.number ≡ number + 1
      → GoesFirst to what.step what.outcome after → what.lines.now ≡ lines_of_step to what.step what.outcome → what.block ≡ block_of_step to what.step
      → LeadsOn now what.step what.outcome next
      → CanEndFrom after next
      → Sees after_it what after grown after.protocol after.shape
      → Showing protocol shape heading shows after_it what.number first next after a b grown
  showing_more after_it next what after grown counted goes lines block on can_end sees =
      let frame : Frame = frame_seen to what after in
      let place : what.number ≡ 1 + length far.so_far.frames = let before = far.so_far.held.0 in omega arith in
      let keeps = frames_keep far.so_far.frames (reset protocol shape) to far.so_far.run in
      let stays = goes_alike to what.step what.outcome after goes in
      let here : Sees after_it what after grown protocol shape =
      subst (λ (p : Protocol). Sees after_it what after grown p shape) (stays.0 ∙ keeps.0) (subst (λ (s : Extent). Sees after_it what after grown after.protocol s) (stays.1 ∙ keeps.1) sees) in
      let one = here far.so_far.frames to far.so_far.held.1 (record { run = far.so_far.run; goes = goes; lines = lines; block = block; number = place }) in
      record {
        so_far = gathering_more far.so_far what.step what.outcome after (λ frames. (what.number ≡ length frames) × after_it protocol shape frames) next (shows protocol shape far.so_far.frames frame) grown goes on can_end
            (place ∙ omega (arith, length-append far.so_far.frames (frame ∷ [])), one.0) (simp (shown_on (shows protocol shape) [] far.so_far.frames (frame ∷ []), append-nil, append_assoc)) one.1;
      }

  module _ (ending : Protocol → Extent → List Frame → Situation → List ℕ) where
    abbrev text : List Frame → Situation → List ℕ
    text = view_text (heading protocol shape) (shows protocol shape) (ending protocol shape)

    -- the course can go on to its end, and something was written
    stopped : (c : Option (List ℕ)) → ((rest : List ℕ) → AppendsFront a c ((heading protocol shape ++ shown (shows protocol shape) [] far.so_far.frames) ++ rest))
        → LeadsToEndWith first (λ steps _ _. BeginsToShow protocol shape text steps a c)
    stopped c cut =
        ends_on far.so_far (λ steps _ _. BeginsToShow protocol shape text steps a c)
        (begins_on protocol shape (heading protocol shape) (shows protocol shape) (ending protocol shape) far.so_far.can_end.steps far.so_far.frames to a c far.so_far.run cut)

    -- a stop before a write
    pub showing_stop : LeadsToEndWith first (λ steps _ _. BeginsToShow protocol shape text steps a b)
    showing_stop = stopped b (λ rest. gathers_stop a b chunk _ rest far.so_far.lines)

    -- a stop in a write of the chunk
    pub showing_cut : (c : Option (List ℕ)) → AppendsFront b c chunk → LeadsToEndWith first (λ steps _ _. BeginsToShow protocol shape text steps a c)
    showing_cut c cut = stopped c (λ rest. gathers_cut a b c chunk _ rest far.so_far.lines cut)

    -- what the view does at the end
    abbrev pub Ends : List ℕ → Protocol → Extent → Type 0
    Ends grown p s = (frames : List Frame) → seen p s frames → FramesFrom (reset p s) frames to → grown ≡ chunk ++ ending p s frames to

    -- after its end all was written, or the last write was cut
    module _ (grown : List ℕ) (over : now [] [] to) (ends : Ends grown to.protocol to.shape) where
      all_lines : Gathers a b grown (text far.so_far.frames to)
      all_lines =
          let keeps = frames_keep far.so_far.frames (reset protocol shape) to far.so_far.run in
          let here : Ends grown protocol shape = subst (λ (p : Protocol). Ends grown p shape) keeps.0 (subst (λ (s : Extent). Ends grown to.protocol s) keeps.1 ends) in
          gathers_more a b chunk grown _ _ far.so_far.lines (here far.so_far.frames far.so_far.held.1 far.so_far.run)

      pub showing_done : (c : Option (List ℕ)) → Appends b c grown → LeadsToEndWith first (λ steps _ _. ShowsRun protocol shape text steps a c)
      showing_done c all =
          ends_here far.so_far (λ steps _ _. ShowsRun protocol shape text steps a c) over (shows_run (record { whole = refl; run = far.so_far.run }) (gathers_done a b c grown (text far.so_far.frames to) all_lines all))

      pub showing_cut_at_end : (c : Option (List ℕ)) → AppendsFront b c grown → LeadsToEndWith first (λ steps _ _. BeginsToShow protocol shape text steps a c)
      showing_cut_at_end c cut =
          ends_here far.so_far (λ steps _ _. BeginsToShow protocol shape text steps a c) over
          (begins_to_show (record { whole = refl; run = far.so_far.run }) (rw append-nil at (gathers_cut a b c grown (text far.so_far.frames to) [] all_lines cut)))

-- a failed write, or out of memory, after the whole text was read
pub view_faulted : {protocol : Protocol} {shape : Extent} {text : List Frame → Situation → List ℕ} {steps : List Step} {old new : Option (List ℕ)} (input : Input) (bytes : Option (List ℕ)) (result : Result (Unit {0}) SimFault) (fault : WriteFault)
    → IsErrAnd result (λ made. made ≡ fault_of_write fault) → GivesSteps protocol shape input bytes steps → BeginsToShow protocol shape text steps old new → SimulatesView protocol shape input text bytes result old new
view_faulted {steps = steps} input bytes (Err made) write.Write is gives begins = rw is (steps, (gives, begins))
view_faulted {steps = steps} input bytes (Err made) write.NoMemory is gives begins = rw is (steps, (gives, begins))
view_faulted input bytes (Ok u) fault is gives begins = absurd is

-- another definition of the same text
pub same_view : (protocol : Protocol) (shape : Extent) (one other : List Frame → Situation → List ℕ)
    → ((steps : List Step) (frames : List Frame) (final : Situation) → AreFrames protocol shape steps frames final → one frames final ≡ other frames final)
    → (input : Input) (bytes : Option (List ℕ)) (result : Result (Unit {0}) SimFault) (a b : Option (List ℕ))
    → SimulatesView protocol shape input one bytes result a b → SimulatesView protocol shape input other bytes result a b
same_view protocol shape one other same input bytes (Ok u) a b h = (h.0, (h.1.0, shown_so (same h.0) h.1.1))
same_view protocol shape one other same input bytes (Err (Text fault)) a b h = h
same_view protocol shape one other same input bytes (Err _) a b h = (h.0, (h.1.0, begun_so (same h.0) h.1.1))
