use Rattle.std.proofs.{Common.min, lemmas.{Bool.{both_ways, eqb-true}, List.take-append-le}}
use Rattle.snoop_engine.proofs.Common.{◌≡◌, ℕ, ◌+◌, ◌-◌, ◌<◌, ◌≤◌, ◌==◌, ◌%◌, true, false, if◌then◌else◌, List, [], ◌∷◌, ◌++◌, length, filter}
use Rattle.snoop_engine.proofs.{Common.{Result, Ok, Err, OnOk, inl, inr, ap, refl, sym, ◌∙◌, append-nil, arith}, NumberedLemmas.{led_on, numbered, numbered_on}}
use Rattle.snoop_engine.proofs.Common.{cases_lt, eq-eqb, filter-append, le-ltb, length_push, lt-ltb, nat_tests, take_all}
use Rattle.snoop_engine.proofs.Common.{Chosen, Extent, Frame, Numbered, Protocol, block_of_step, frame_seen, lines_of_step, numbered_from}
use Rattle.snoop_svg.specs.{declared.drawing.Drawing.Drawing, Drawings.{HasSeen, StandsBelow, drawn, frame_text, has_row, last_above, row_above}}
use Rattle.snoop_svg.specs.{Drawings.{rows_per_sheet, turn_text}, Sheets.{AfterSteps, Plan, row_text, row_y}}
use Rattle.snoop_svg.proofs.drawing.DrawingView.see.Goals as goal

-- a step before the first number is not drawn
not_yet : (choice : Chosen) (n : Numbered) → n.number < choice.from → has_row choice n ≡ false
not_yet choice n early = grind (arith, nat_tests)

-- nor are frames before it
none_yet : (choice : Chosen) (number : ℕ) (frames : List Frame) → number + length frames ≤ choice.from
    → filter (has_row choice) (numbered_from number frames) ≡ []
none_yet choice number [] few = refl
none_yet choice number (f ∷ fs) few = rw (not_yet choice (numbered number f) (omega arith)) (none_yet choice (number + 1) fs (omega arith))

last_on : (above : AfterSteps) (ns : List Numbered) (n : Numbered) → last_above above (ns ++ n ∷ []) ≡ record { number = n.number; situation = n.frame.after }
last_on above [] n = refl
last_on above (m ∷ ms) n = last_on _ ms n

-- what is drawn, with one frame more
drawn_on : (choice : Chosen) (frames : List Frame) (frame : Frame) → drawn choice (frames ++ frame ∷ [])
    ≡ drawn choice frames ++ (if has_row choice (numbered (1 + length frames) frame) then numbered (1 + length frames) frame ∷ [] else [])
drawn_on choice frames frame = rw (numbered_on 1 frames frame, filter-append (has_row choice))

-- a drawing, when it sees one frame more
module _ {first old : Drawing} {protocol : Protocol} {shape : Extent} {frames : List Frame} (frame : Frame)
    (has : HasSeen first protocol shape frames old) where
  seen_on : {new : Drawing} → new.plan ≡ old.plan → new.place ≡ min (length (drawn old.plan.choice (frames ++ frame ∷ []))) old.plan.paper.shown
      → (old.plan.choice.from ≤ 2 + length frames → length (drawn old.plan.choice (frames ++ frame ∷ [])) ≤ old.plan.paper.shown
      → StandsBelow new (row_above old.plan.choice protocol shape (frames ++ frame ∷ []))) → HasSeen first protocol shape (frames ++ frame ∷ []) new
  seen_on plan place above = record {
    plan = plan ∙ has.plan;
    place = rw (← plan) at place;
    above = λ late few. (rw (← plan) at above) (omega (arith, length_push frames frame)) few;
  }

  -- the first row comes
  seen_start : {new : Drawing} → (new.plan ≡ old.plan) × (new.place ≡ old.place) → old.plan.choice.from ≡ 2 + length frames
      → StandsBelow new (record { number = 1 + length frames; situation = frame.after }) → HasSeen first protocol shape (frames ++ frame ∷ []) new
  seen_start same next stands =
      let more = length_push frames frame in
      let none = none_yet old.plan.choice 1 (frames ++ frame ∷ []) (omega arith) in
      let number : old.plan.choice.from - 1 ≡ 1 + length frames = omega arith in
      seen_on same.0 (same.1 ∙ has.place ∙ rw (none, none_yet old.plan.choice 1 frames (omega arith)) refl)
      (λ late few. rw (none, take_all (old.plan.choice.from - 1) (frames ++ frame ∷ []) (omega arith), led_on, number) stands)

  -- the step is not drawn
  seen_stays : ¬ (old.plan.choice.from ≡ 2 + length frames) → has_row old.plan.choice (numbered (1 + length frames) frame) ≡ false
      → HasSeen first protocol shape (frames ++ frame ∷ []) old
  seen_stays other off =
      let same : drawn old.plan.choice (frames ++ frame ∷ []) ≡ drawn old.plan.choice frames = rw (drawn_on, off) (append-nil (drawn old.plan.choice frames)) in
      seen_on refl (rw same has.place) (λ late few.
      let early : old.plan.choice.from - 1 ≤ length frames = omega (arith, other) in
      rw (same, take-append-le (old.plan.choice.from - 1) frames (frame ∷ []) early) (has.above (omega (arith, other)) (rw same at few)))

  -- the step is drawn
  module _ (on : has_row old.plan.choice (numbered (1 + length frames) frame) ≡ true) where
    -- what stands above its row, if that is shown
    stands_above : old.place < old.plan.paper.shown → StandsBelow old (row_above old.plan.choice protocol shape frames)
    stands_above low = has.above (grind (arith, nat_tests)) (omega (arith, has.place))

    seen_drawn : {new : Drawing} → new.plan ≡ old.plan → new.place ≡ min (old.place + 1) old.plan.paper.shown
        → (old.place < old.plan.paper.shown → StandsBelow new (record { number = 1 + length frames; situation = frame.after }))
        → HasSeen first protocol shape (frames ++ frame ∷ []) new
    seen_drawn plan place stands =
        let here = numbered (1 + length frames) frame in
        let grown : drawn old.plan.choice (frames ++ frame ∷ []) ≡ drawn old.plan.choice frames ++ here ∷ [] = rw (drawn_on, on) in
        let count = length_push (drawn old.plan.choice frames) here in
        seen_on plan (rw grown (omega (arith, has.place, count))) (λ late few. rw (grown, last_on) (stands (omega (arith, has.place, count, rw grown at few))))

-- what is drawn of a step whose row is shown in this place
text_shown : (plan : Plan) (protocol : Protocol) (shape : Extent) (frames : List Frame) (frame : Frame) (place : ℕ)
    → (1 + length frames + 1 == plan.choice.from) ≡ false
    → has_row plan.choice (numbered (1 + length frames) frame) ≡ true → place ≡ length (drawn plan.choice frames) → place < plan.paper.shown
    → frame_text plan protocol shape frames (numbered (1 + length frames) frame)
    ≡ turn_text plan protocol shape place (row_above plan.choice protocol shape frames)
    ++ row_text plan shape (row_y (place % rows_per_sheet plan.paper.form)) (row_above plan.choice protocol shape frames) (1 + length frames) frame.after
    (block_of_step frame.before frame.step) frame.step frame.outcome (lines_of_step frame.before frame.step frame.outcome)
text_shown plan protocol shape frames frame place not_first on here low = rw (not_first, on, ← here, lt-ltb place plan.paper.shown low) refl

-- a fact on a value that is there
at_ok : {T E P : Type 0} (r : Result T E) → ((x : T) → r ≡ Ok x → P) → OnOk r P
at_ok (Ok x) f = f x refl
at_ok (Err e) f = tt

pub returns-then-is_first_after : goal.returns-then-is_first_after
returns-then-is_first_after c first frames before has next =
    let from = c.args.self.now.plan.choice.from in
    let comes : (1 + length frames + 1 == from) ≡ true =
    rw (c.choice-choice.ensures, next.number) at (sym c.is_first_after.ensures ∙ c.if-is_first_after.true) in
    at_ok c.start.result (λ u is. (
      seen_start (frame_seen before c.args.seen c.args.machine.now.situation) has c.start.ensures.plan
          (omega (arith, eqb-true (1 + length frames + 1) from comes)) (rw (is, next.number) at c.start.ensures.below),
      rw (← has.plan, comes) (rw (is, next.number) at c.start.ensures.text),
    ))

pub returns-then-has_step : goal.returns-then-has_step
returns-then-has_step c first frames before has next =
    let old = c.args.self.now in
    let s = c.args.machine.now.situation in
    let frame : Frame = frame_seen before c.args.seen s in
    let choice = old.plan.choice in
    let not_first : (1 + length frames + 1 == choice.from) ≡ false =
    rw (c.choice-choice.ensures, next.number) at (sym c.is_first_after.ensures ∙ c.if-is_first_after.false) in
    let on : has_row choice (numbered (1 + length frames) frame) ≡ true =
    rw (c.choice-choice.ensures, next.number, next.block) at (sym c.has_step.ensures ∙ c.if-has_step.true) in
    elim (cases_lt old.place old.plan.paper.shown) [
      | inl low ↦
          let stands = stands_above frame has on low in
          let above = row_above choice s.protocol s.shape frames in
          let here : old.place ≡ length (drawn choice frames) = omega (arith, has.place) in
          let seen = c.args.seen in
          let y : ℕ = row_y (old.place % rows_per_sheet old.plan.paper.form) in
          let out : List ℕ = c.args.out.now.items in
          let text : Plan → List ℕ = λ plan. out ++ frame_text plan s.protocol s.shape frames (numbered (1 + length frames) frame) in
          at_ok c.push_drawn.result (λ u is. (
            seen_drawn frame has on c.push_drawn.ensures.plan (omega (arith, rw is at (c.push_drawn.ensures.place low)))
                (λ _. rw (is, next.number) at (c.push_drawn.ensures.below above low stands)),
            (rw is at (c.push_drawn.ensures.shown above low stands))
                ∙ (λ i. out ++ (turn_text old.plan s.protocol s.shape old.place above
                ++ row_text old.plan s.shape y above (next.number i) s (next.block i) seen.step seen.outcome (next.lines i)))
                ∙ (λ i. out ++ sym (text_shown old.plan s.protocol s.shape frames frame old.place not_first on here low) i) ∙ ap text has.plan,
          ))
      | inr high ↦
          let blank = c.push_drawn.ensures.blank high in
          at_ok c.push_drawn.result (λ u is. (
            seen_drawn frame has on c.push_drawn.ensures.plan (omega (arith, blank.0, has.place)) (λ low. absurd (omega arith)),
            rw (← has.plan, not_first, on, le-ltb (length (drawn choice frames)) old.plan.paper.shown (omega (arith, has.place)), append-nil) blank.1,
          ))
    ]

pub returns-else-has_step : goal.returns-else-has_step
returns-else-has_step c first frames before has next =
    let choice = c.args.self.now.plan.choice in
    let frame : Frame = frame_seen before c.args.seen c.args.machine.now.situation in
    let not_first : (1 + length frames + 1 == choice.from) ≡ false =
    rw (c.choice-choice.ensures, next.number) at (sym c.is_first_after.ensures ∙ c.if-is_first_after.false) in
    let off : has_row choice (numbered (1 + length frames) frame) ≡ false =
    rw (c.choice-choice.ensures, next.number, next.block) at (sym c.has_step.ensures ∙ c.if-has_step.false) in (
      seen_stays frame has (λ from. both_ways _ not_first (eq-eqb (1 + length frames + 1) choice.from (omega arith))) off,
      rw (← has.plan, not_first, off, append-nil) refl,
    )
