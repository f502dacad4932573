-- Steps and one step more: what can be counted of them, the last in which something happened, and the last so many.
use Rattle.std.proofs.{Common.{◌%◌, drop}, lemmas.{Bool.cases_lt, Grind.common_steps}, Math.Nat.{mod-eq_of_lt, mod-le, mod-lt, mod_self, suc-mod}}
use Rattle.std.proofs.lemmas.List.{drop-append-le, drop_all, reverse-append, take-append-drop, take-append-le, take_more, Folds.list_any-append}
use Rattle.std.specs.List.{list_any}
use Rattle.snoop_engine.specs.Frames.{FramesFrom}
use Rattle.snoop_counts.proofs.Common.{[], ℕ, ◌++◌, ◌+◌, ◌-◌, ◌<◌, ◌∙◌, ◌∷◌, ◌≡◌, ◌≤◌, ap, append-nil, append_assoc, arith, Bool, cases_eq, Did, eq-eqb, Frame, get_or, if◌then◌else◌, length, length-append, lines_of_step, List, MarksLines, ne_eqb, operation_in, Option, refl, Situation, suc, sym, take, Taken}
use Rattle.snoop_counts.specs.{BySteps.{seen_last, steps_fields, steps_left, steps_shown}, Causes.{gives_up, is_stored_to, last_step, loses, takes_such_row}}
use Rattle.snoop_counts.specs.{Counted.{is_giving_up, is_loss}, Happenings.{seen_after, seen_in}, LastSteps.{HasLastSteps, KnowsLastSteps, Marks, MarksStore}}
use Rattle.snoop_counts.specs.declared.{copies.Copies.Copies, last_steps.LastSteps.LastSteps}

-- what can be counted of steps that are cut in two
pub seen_cut : (earlier first rest : List Frame) → seen_after earlier (first ++ rest) ≡ seen_after earlier first ++ seen_after (earlier ++ first) rest
seen_cut earlier [] rest = rw append-nil
seen_cut earlier (f ∷ fs) rest = rw (seen_cut (earlier ++ f ∷ []) fs rest) (simp append_assoc)

-- one frame more
pub seen_on : (earlier frames : List Frame) (frame : Frame) → seen_after earlier (frames ++ frame ∷ []) ≡ seen_after earlier frames ++ seen_in (earlier ++ frames) frame
seen_on earlier frames frame = rw (seen_cut earlier frames (frame ∷ []), append-nil (seen_in (earlier ++ frames) frame)) refl

-- one step more is the last, if it passes
last_more : (test : Frame → Bool) (frames : List Frame) (frame : Frame) → last_step test (frames ++ frame ∷ []) ≡ (if test frame then 1 + length frames else last_step test frames)
last_more test frames frame = grind (arith, common_steps, reverse-append frames (frame ∷ []))

-- the number of the step is written where the test passes of it
module _ (test : ℕ → ℕ → Frame → Bool) (frames : List Frame) (frame : Frame) (number : ℕ) (old new : LastSteps) where
  last_marked : number ≡ 1 + length frames → HasLastSteps test frames old → Marks (λ block at. test block at frame) number old new → HasLastSteps test (frames ++ frame ∷ []) new
  last_marked is far marks = record {
    number = λ block at. rw (marks block at, is, far.number block at) (sym (last_more (test block at) frames frame));
  }

-- marks of some lines, and of one more
marks_more : (test : ℕ → ℕ → Taken → Bool) (number : ℕ) (lines : List Taken) (line : Taken) (old middle new : LastSteps)
    → Marks (λ block at. list_any (test block at) lines) number old middle → Marks (λ block at. list_any (test block at) (line ∷ [])) number middle new
    → Marks (λ block at. list_any (test block at) (lines ++ line ∷ [])) number old new
marks_more test number lines line old middle new first next block at =
    rw (next block at, first block at, list_any-append (test block at) lines (line ∷ []))
    (grind arith)

pub lines_more : (number : ℕ) (all : List Taken) (i : ℕ) (line : Taken) (old middle new : Copies) → i < length all → MarksLines number (take i all) old middle
    → MarksLines number (get_or all i line ∷ []) middle new → MarksLines number (take (i + 1) all) old new
lines_more number all i d old middle new low first next = let lines = take i all in let line = get_or all i d in rw (take_more all i d low) (record {
  given_up = marks_more (takes_such_row is_giving_up) number lines line old.given_up middle.given_up new.given_up first.given_up next.given_up;
  lost = marks_more (takes_such_row is_loss) number lines line old.lost middle.lost new.lost first.lost next.lost;
  stored = next.stored ∙ first.stored;
})

-- a step's lines and its store are marked
pub follows_more : (frames : List Frame) (frame : Frame) (number : ℕ) (lines : List Taken) (operation : Option Did) (old middle new : Copies) → KnowsLastSteps frames old → number ≡ 1 + length frames
    → lines ≡ lines_of_step frame.before frame.step frame.outcome → operation ≡ operation_in frame → MarksLines number lines old middle → MarksStore number operation middle new → KnowsLastSteps (frames ++ frame ∷ []) new
follows_more frames frame number lines operation old middle new far is same did marks stores =
    let marked = rw same at marks in
    let stored = rw did at stores in
    record {
      given_up = rw stored.given_up (last_marked gives_up frames frame number old.given_up middle.given_up is far.given_up marked.given_up);
      lost = rw stored.lost (last_marked loses frames frame number old.lost middle.lost is far.lost marked.lost);
      stored = last_marked is_stored_to frames frame number middle.stored new.stored is (rw marked.stored far.stored) stored.stored;
    }

-- the machine is where the last frame led
pub led_by_last : (frames : List Frame) (frame : Frame) (old new : Situation) → FramesFrom old (frames ++ frame ∷ []) new → new ≡ frame.after
led_by_last [] frame old new run = run.1
led_by_last (f ∷ fs) frame old new run = led_by_last fs frame f.after new run.1

-- one step more
pub seen_last_more : (size : ℕ) (frames : List Frame) (frame : Frame) → size ≤ length frames → seen_last (size + 1) (frames ++ frame ∷ []) ≡ seen_last size frames ++ seen_in frames frame
seen_last_more size frames frame le =
    let k : ℕ = length frames - size in
    let same : length (frames ++ frame ∷ []) - (size + 1) ≡ k = omega (arith, length-append frames (frame ∷ [])) in
    let within : k ≤ length frames = omega arith in
    rw (same, take-append-le k frames (frame ∷ []) within, drop-append-le k frames (frame ∷ []) within)
    (rw (seen_on (take k frames) (drop k frames) frame, take-append-drop k frames))

-- the last none of some steps are none, and so are the last so many of no steps
pub seen_last_none : (size : ℕ) (frames : List Frame) → length frames ≤ length frames - size → seen_last size frames ≡ []
seen_last_none size frames none = rw (drop_all (length frames - size) frames none) refl

-- one more is left over, or all stand in lines
left_over : (n every : ℕ) → 0 < every → ((n + 1) % every ≡ 0 → n % every + 1 ≡ every) × (((n + 1) % every ≡ 0 → ⊥) → (n + 1) % every ≡ n % every + 1)
left_over n every some =
    let up : n + 1 ≡ suc n = omega arith in
    let next : (n + 1) % every ≡ suc (n % every) % every = rw up (suc-mod n every) in
    let last = λ (low : suc (n % every) < every). mod-eq_of_lt low in (
      λ none. grind (arith, cases_lt (suc (n % every)) every, mod-lt n some, none, next, last),
      λ more. grind (arith, cases_eq (suc (n % every)) every, mod-lt n some, mod_self every, more, next, last),
    )

module _ (every : ℕ) (some : 0 < every) (frames : List Frame) (frame : Frame) where
  abbrev next : List Frame
  next = frames ++ frame ∷ []

  abbrev left : ℕ
  left = length frames % every

  longer : length next ≡ length frames + 1
  longer = length-append frames (frame ∷ [])

  left_now : (length next % every ≡ 0 → left + 1 ≡ every) × ((length next % every ≡ 0 → ⊥) → length next % every ≡ left + 1)
  left_now = rw longer (left_over (length frames) every some)

  -- what was counted since the last line, with one step more
  counted_more : seen_last left frames ++ seen_in frames frame ≡ seen_last (left + 1) next
  counted_more = sym (seen_last_more left frames frame (mod-le (length frames) every))

  -- no line yet
  pub no_line_yet : (length next % every ≡ 0 → ⊥)
      → (seen_last left frames ++ seen_in frames frame ≡ seen_last (length next % every) next) × (steps_shown every frames frame ≡ [])
  no_line_yet more = (counted_more ∙ ap (λ (size : ℕ). seen_last size next) (sym (left_now.1 more)), rw (← longer, ne_eqb (length next % every) 0 more) refl)

  -- a line, and nothing since
  pub line_now : length next % every ≡ 0 → (first : ℕ) → first ≡ length next - (every - 1)
      → ([] ≡ seen_last (length next % every) next) × (steps_fields first (length next) (seen_last left frames ++ seen_in frames frame) ≡ steps_shown every frames frame)
  line_now none first begins =
      let from : first ≡ length next + 1 - every = omega (arith, some, longer, begins) in (
        rw (none, seen_last_none 0 next (omega arith)) refl,
        rw (← longer, eq-eqb (length next % every) 0 none, counted_more, left_now.0 none) (λ i. steps_fields (from i) (length next) (seen_last every next)),
      )

-- the steps that are left over at the end
pub left_line : (every : ℕ) (frames : List Frame) (final : Situation) (first : ℕ)
    → 0 < length frames % every → first ≡ length frames - (length frames % every - 1)
    → steps_fields first (length frames) (seen_last (length frames % every) frames) ≡ steps_left every frames final
left_line every frames final first some begins =
    let from : first ≡ length frames + 1 - length frames % every = omega (arith, some, begins, mod-le (length frames) every) in
    rw (ne_eqb (length frames % every) 0 (λ none. omega arith), from) refl
