-- The lines of a course's steps, written or in the chunk, and then the report.
use Rattle.snoop_engine.proofs.Common.{arith, common_steps, ◌≡◌, ℕ, List, [], ◌∷◌, ◌++◌, Option, sym, ◌∙◌, append_assoc, append-nil, map-append, inr, ◌⊎◌, Result, Err, IsErrAnd, Appends, Extent, AppendsFront, WriteFault, Protocol, Row, Step, gathers_cut, gathers_done, gathers_stop, appends_none_of, Item, Reply, Refused, Situation, reset, GoesFirst, runs_go_on, appends_more, front_after, CanEndFrom, LeadsToEndWith, Leading, LeadsOn, fault_of_write, EndsInOrder, InOrder, IsAtTheEnd, IsAtTheStart, Progress, SimFault, Frame, outcomes_of, steps_of, refl}
use Rattle.snoop_history.specs.Report.{report_of}
use Rattle.snoop_engine.specs.{Line.{line_text, line_texts}, Simulated.Begins, SimulatedRun.{BeginsRun, ReportsRun}, Written.run_text}
use Rattle.snoop_engine.{specs.SimulatedSerial.{BeginsSerial, ReportsSerial}, proofs.{CourseLemmas.{driver_served, in_order_served}, TakenLemmas.frames_keep}}
use Rattle.snoop_engine.specs.declared.fault.SimFault.TheVariants as fault
use Rattle.snoop_engine.proofs.Gathering.{Gathering, gathering_more, ends_here, ends_on}

-- the lines of frames, and then those of other steps
abbrev pub lines_of : Extent → List Frame → List ℕ
lines_of shape frames = line_texts shape (steps_of frames) (outcomes_of frames)

lines_on : (shape : Extent) (frames : List Frame) (steps : List Step) (outcomes : List (Result Reply Refused))
    → line_texts shape (steps_of frames ++ steps) (outcomes_of frames ++ outcomes) ≡ lines_of shape frames ++ line_texts shape steps outcomes
lines_on shape [] steps outcomes = refl
lines_on shape (f ∷ fs) steps outcomes = rw (lines_on shape fs steps outcomes) (simp append_assoc)

lines_more : (shape : Extent) (frames : List Frame) (frame : Frame) → lines_of shape (frames ++ frame ∷ []) ≡ lines_of shape frames ++ line_text shape frame.step frame.outcome
lines_more shape frames frame = rw (map-append (λ (f : Frame). f.step) frames _, map-append (λ (f : Frame). f.outcome) frames _) (lines_on shape frames _ _ ∙ simp append-nil)

-- the whole output of a run was written, or a beginning of it
abbrev WritesRun : Extent → Option (List ℕ) → Option (List ℕ) → Leading
WritesRun shape a b steps outcomes final = Appends a b (run_text shape steps outcomes final)

abbrev WritesFront : Extent → Option (List ℕ) → Option (List ℕ) → Leading
WritesFront shape a b steps outcomes final = AppendsFront a b (run_text shape steps outcomes final)

-- the lines of the steps so far were written or stand in the chunk
abbrev pub Writing : Protocol → Extent → Leading → Leading → Situation → Option (List ℕ) → Option (List ℕ) → List ℕ → Type 0
Writing protocol shape = Gathering protocol shape (lines_of shape) (λ frames. Unit {0})

module _ {protocol : Protocol} {shape : Extent} {first now : Leading} {here : Situation} {a b : Option (List ℕ)} {chunk : List ℕ} (far : Writing protocol shape first now here a b chunk) where
  pub writing_more : (next : Leading) (step : Step) (outcome : Result Reply Refused) (after : Situation) (grown : List ℕ) → GoesFirst here step outcome after
      → LeadsOn now step outcome next
      → CanEndFrom after next
      → grown ≡ chunk ++ line_text shape step outcome
      → Writing protocol shape first next after a b grown
  writing_more next step outcome after grown goes on can_end e = gathering_more far step outcome after (λ frames. Unit {0}) next _ grown goes on can_end tt (lines_more shape far.frames _) e

  -- what is written of the steps so far is a beginning of what is written of all
  begun : (c : Option (List ℕ)) → ((rest : List ℕ) → AppendsFront a c (lines_of shape far.frames ++ rest)) → LeadsToEndWith first (WritesFront shape a c)
  begun c cut =
      let end = far.can_end in
      ends_on far (WritesFront shape a c) (rw (lines_on shape far.frames end.steps end.outcomes, append_assoc) (cut (line_texts shape end.steps end.outcomes ++ report_of shape.words end.final.log)))

  -- a stop before a write
  pub writing_stop : LeadsToEndWith first (WritesFront shape a b)
  writing_stop = begun b (λ rest. gathers_stop a b chunk _ rest far.lines)

  -- a stop in a write of the chunk
  pub writing_cut : (c : Option (List ℕ)) → AppendsFront b c chunk → LeadsToEndWith first (WritesFront shape a c)
  writing_cut c cut = begun c (λ rest. gathers_cut a b c chunk _ rest far.lines cut)

  -- the chunk was written, and then some of the report or all of it
  module _ (over : now [] [] here) (c d : Option (List ℕ)) (flushed : Appends b c chunk) (words : ℕ) (items : List Item) (these : words ≡ here.shape.words) (last : items ≡ here.log) where
    report : report_of words items ≡ report_of shape.words here.log
    report = rw (last, these, (frames_keep far.frames (reset protocol shape) here far.run).1)

    pub writing_report_cut : AppendsFront c d (report_of words items) → LeadsToEndWith first (WritesFront shape a d)
    writing_report_cut cut = ends_here far (WritesFront shape a d) over (front_after a c d _ _ (gathers_done a b c chunk _ far.lines flushed) (rw report at cut))

    pub writing_done : Appends c d (report_of words items) → LeadsToEndWith first (WritesRun shape a d)
    writing_done all = ends_here far (WritesRun shape a d) over (appends_more a c d _ _ (gathers_done a b c chunk _ far.lines flushed) (rw report at all))

-- nothing was written
pub begins_nothing : (protocol : Protocol) (shape : Extent) (steps : List Step) (a : Option (List ℕ)) → Begins protocol shape steps a a
begins_nothing protocol shape steps a =
    let all = runs_go_on protocol shape [] steps [] (reset protocol shape) refl in
    record { outcomes = all.0; final = all.1.0; run = all.1.1; output = appends_none_of a (run_text shape steps all.0 all.1.0) }

-- a driver at its end has served its rows
module _ {protocol : Protocol} {shape : Extent} {rows : List Row} {start : Progress} (at : IsAtTheStart protocol shape rows start) {a b : Option (List ℕ)} where
  pub reports_run : LeadsToEndWith (IsAtTheEnd start) (WritesRun shape a b) → ReportsRun protocol shape rows a b
  reports_run end =
      let served = driver_served at end.way in
      record { steps = end.steps; outcomes = end.outcomes; final = end.final; run = served.0; serves = served.1; output = end.holds }

  pub begins_run : LeadsToEndWith (IsAtTheEnd start) (WritesFront shape a b) → BeginsRun protocol shape rows a b
  begins_run end =
      let served = driver_served at end.way in
      record {
        steps = end.steps;
        outcomes = end.outcomes;
        reached = end.final;
        run = served.0;
        taken = served.1.taken;
        asked = λ core. ([], sym (served.1.asked core) ∙ sym (append-nil _));
        apart = served.1.apart;
        output = inr (served.1, end.holds);
      }

-- and so has one that serves them one after another
module _ {protocol : Protocol} {shape : Extent} {rows : List Row} {start : InOrder} (at : start.situation ≡ reset protocol shape) (left : start.left ≡ rows) {a b : Option (List ℕ)} where
  pub reports_serial : LeadsToEndWith (EndsInOrder start) (WritesRun shape a b) → ReportsSerial protocol shape rows a b
  reports_serial end =
      let served = in_order_served at left end.way in
      record { steps = end.steps; outcomes = end.outcomes; final = end.final; run = served.0; serves = served.1; output = end.holds }

  pub begins_serial : LeadsToEndWith (EndsInOrder start) (WritesFront shape a b) → BeginsSerial protocol shape rows a b
  begins_serial end =
      let served = in_order_served at left end.way in
      record {
        steps = end.steps;
        outcomes = end.outcomes;
        reached = end.final;
        run = served.0;
        taken = served.1.serves.taken;
        first = rows;
        left = [];
        whole = sym (append-nil rows);
        asked = served.1.asked;
        apart = served.1.apart;
        output = inr (served.1, end.holds);
      }

-- a failed write, or out of memory: what a fault of a write becomes
pub write_faulted : (cause : WriteFault) (result : Result (Unit {0}) SimFault) → IsErrAnd result (λ made. made ≡ fault_of_write cause) → (result ≡ Err fault.Write) ⊎ (result ≡ Err fault.NoMemory)
write_faulted cause result is = grind (arith, common_steps)
