-- Sums of counts over causes, over parts of a run, over cores, over blocks, and over the words of a block.
use Rattle.std.proofs.{Common.{◌^◌, zero}, Math.Bool.or-false, lemmas.Bool.{both_ways, false≢true, lt-ltb}}
use Rattle.std.proofs.lemmas.List.Elements.{All-contains, All-contains_itself, All-map, Contains-append_left, Contains-append_right}
use Rattle.std.proofs.lemmas.List.{Folds.{fold-map, fold_stays}, Sums.{length-filter, sum_by_from}}
use Rattle.std.{proofs.lemmas.{Grind.common_steps, Nat.{mul-add-lt, mul-le, same_from_place}, Option.gets}, specs.{List.sum_by, Option.ForSome}}
use Rattle.std.specs.Prelude.{Err, IsSomeAnd, nat_lt, option_to_list, slice_get}
use Rattle.snoop_trace.specs.{Extent.IsWithinLimits, Words.{IsWord, place_of}, declared.step.Op.Op}
use Rattle.snoop_rules.specs.declared.names.{CacheAction.CacheAction, CacheEvent.TheVariants.OtherGetM, Payload.{Payload}}
use Rattle.snoop_history.specs.{Totals.{how_many, performed, totals_of}, Within.{block_of, IsItemWithin}}
use Rattle.snoop_model.proofs.{OneBlock.AfterMoves.by_request, Queues.keeps_well, Runs.GoOn.{IsSteady, reset_steady, steady_on}}
use Rattle.snoop_model.specs.{Moves.Move.{MoveOn, next_did, Takes}, Pictures.Situation.{IsShaped, nothing_there}}
use Rattle.snoop_engine.proofs.Common.{All-append, All-cons, arrival, Ask, CacheEvent, CacheState, cases_lt, ConsultsCache, Contains, Extent, get_or_past, GoesFirst, HasWord, I, IfSome, Invariant, IsWithin, Item, Line, nothing_held, Order, picture_of, Protocol, reset, Respond, same_Some, ShowsRows, state_of, subst, waiting_request}
use Rattle.snoop_engine.{proofs.{RangeLemmas.filter_range, TakenLemmas.goes_alike, TrueLines.lines_fit}, specs.{Frames.FramesFrom, TrueLines.FitsStep}}
use Rattle.snoop_counts.proofs.Common.{[], ℕ, ◌&&◌, ◌*◌, ◌++◌, ◌+◌, ◌<◌, ◌==◌, ◌||◌, ◌∙◌, ◌∷◌, ◌≡◌, ◌≤◌, All, All-head, All-nil, All-tail, ap, append-nil, append_assoc, arith, Blocks, Bool, Cause, cause_of, cond, Core, Cores, Count, counts, Did, false, filter, filter-append, flat_map, Frame, get_or, Happening, happenings, if◌then◌else◌, inl, inr, is_counted, length, length-append, lines_of_step, List, map, nat_tests, None, not, Ok, operation_in, Option, option_map_or, range_with_len, refl, Refused, Reply, Result, Situation, Some, Step, Subjects, suc, sym, Taken, times_counted, true, Words}
use Rattle.snoop_counts.{proofs.{LastLemmas.seen_cut, TallyLemmas.{IsOfItems, no_cause, no_line, not_refused}}, specs.Causes.item_of}
use Rattle.snoop_counts.specs.Counted.{core_counted, counts_cause, counts_item, has_row, is_invalidation, is_it, is_miss, named_place, own_core, own_word, requestor_of, response_sender, subject_of}
use Rattle.snoop_counts.specs.{Happenings.{seen_after, seen_in}, Laws.{CausesAreAll, HasSumsOfWords, HasTotals, PartsAddUp, SuffersWhatIsDone, sum_of, sum_of_words, sums_of}}
use Rattle.snoop_counts.specs.declared.count.Count.TheVariants as count
use Rattle.snoop_counts.specs.declared.count.Happening.TheVariants as happening
use Rattle.snoop_counts.specs.declared.count.Subjects.TheVariants as subjects
use Rattle.snoop_history.specs.declared.items.Item.TheVariants as item
use Rattle.snoop_rules.specs.declared.names.CacheAction.TheVariants as action
use Rattle.snoop_trace.specs.declared.step.Op.TheVariants as op

-- parts add up
pub parts_add_up : PartsAddUp
parts_add_up earlier first rest whose subject counted = rw (seen_cut earlier first rest) (simp (filter-append, length-append))

-- one where it is true
abbrev pub once : Bool → ℕ
once b = cond b 1 0

-- one element more
pub kept_if : {X : Type 0} (b : Bool) (x : X) (xs : List X) → length (cond b (x ∷ xs) xs) ≡ once b + length xs
kept_if b x xs = grind arith

-- what the steps add to the history
abbrev pub items_in : List Frame → List Item
items_in frames = flat_map (λ frame. option_to_list (item_of frame)) frames

-- what holds of each line with its cause, and of each item, holds of all that can be counted
pub all_seen : (P : Happening → Type 0) (earlier frames : List Frame)
    → ((before : List Frame) (frame : Frame) (line : Taken) → Contains frames frame → Contains (lines_of_step frame.before frame.step frame.outcome) line
    → P (happening.Line frame.step frame.outcome line (cause_of before (operation_in frame) line)))
    → ((entry : Item) → Contains (items_in frames) entry → P (happening.Item entry)) → All P (seen_after earlier frames)
all_seen P earlier [] lines items = All-nil P
all_seen P earlier (frame ∷ frames) lines items =
    let of_line : Taken → Happening = λ line. happening.Line frame.step frame.outcome line (cause_of earlier (operation_in frame) line) in
    let taken : List Taken = lines_of_step frame.before frame.step frame.outcome in
    let added : List Item = option_to_list (item_of frame) in
    All-append P (seen_in earlier frame) (seen_after (earlier ++ frame ∷ []) frames)
    (All-append P (map of_line taken) (map happening.Item added)
    (All-map P of_line taken (λ k d low. lines earlier frame (get_or taken k d) (0, omega arith, refl) (All-contains_itself taken k d low)))
    (All-map P happening.Item added (λ k d low. items (get_or added k d) (Contains-append_left added (items_in frames) _ (All-contains_itself added k d low)))))
    (all_seen P (earlier ++ frame ∷ []) frames (λ before other line there. lines before other line (Contains-append_right (frame ∷ []) frames other there))
    (λ entry there. items entry (Contains-append_right added (items_in frames) entry there)))

-- a miss has one cause, and what is no miss has none
of_miss : (mine miss : Bool) (why : Cause) → let found : Option Cause = if miss then Some why else None in
    once ((miss || false || option_map_or (counts_cause count.Misses) found false) && mine)
    ≡ once (option_map_or (counts_cause count.Cold) found false && mine) + once (option_map_or (counts_cause count.GivenUp) found false && mine)
    + once (option_map_or (counts_cause count.TrueSharing) found false && mine) + once (option_map_or (counts_cause count.FalseSharing) found false && mine)
of_miss mine miss why = grind arith

module _ (whose : Subjects) (subject : ℕ) where
  abbrev times_one : Count → Happening → ℕ
  times_one c seen = once (is_counted whose subject c seen)

  abbrev HasOneCause : Happening → Type 0
  HasOneCause seen = times_one count.Misses seen ≡ times_one count.Cold seen + times_one count.GivenUp seen + times_one count.TrueSharing seen + times_one count.FalseSharing seen

  abbrev times : List Happening → Count → ℕ
  times all c = times_counted whose all subject c

  one_cause : (all : List Happening) → All HasOneCause all
      → times all count.Misses ≡ times all count.Cold + times all count.GivenUp + times all count.TrueSharing + times all count.FalseSharing
  one_cause [] has = refl
  one_cause (x ∷ xs) has = let here = All-head HasOneCause x xs has in let rest = one_cause xs (All-tail HasOneCause x xs has) in simp kept_if (omega arith)

-- a line has them for whomever it is counted
line_has : (whose : Subjects) (subject : ℕ) (earlier : List Frame) (operation : Option Did) (step : Step) (outcome : Result Reply Refused) (line : Taken)
    → HasOneCause whose subject (happening.Line step outcome line (cause_of earlier operation line))
line_has subjects.Cores subject earlier operation step outcome (Core core block (Some event) before) =
    simp (not_refused outcome) (of_miss _ (is_miss before event) _)
line_has whose subject earlier operation step outcome (Core core block (Some event) before) = simp (not_refused outcome) (of_miss _ (is_miss before event) _)
line_has whose subject earlier operation step outcome line = simp (not_refused outcome) refl

pub causes_are_all : CausesAreAll
causes_are_all frames whose subject =
    one_cause whose subject (happenings frames)
    (all_seen (HasOneCause whose subject) [] frames
    (λ before frame line here there. line_has whose subject before (operation_in frame) _ _ line) (λ entry here. refl))

-- the operation of a response is of its block
abbrev IsOfOneBlock : Item → Type 0
IsOfOneBlock (item.Came came did) = IfSome did (λ done. done.block ≡ came.block)
IsOfOneBlock _ = Unit {0}

-- what a run may add to its history: an item within the shape, and if it is a response with an operation, this is of its block
record IsSound (shape : Extent) (entry : Item) : Type 0 where
  pub within : IsItemWithin shape.cores shape.blocks shape.words entry
  pub of_one_block : IsOfOneBlock entry

-- a history has one item more, or is the same
record Adds (shape : Extent) (old new : List Item) (entry : Option Item) : Type 0 where
  pub logged : new ≡ old ++ option_to_list entry
  pub sound : All (IsSound shape) (option_to_list entry)

module _ {shape : Extent} {old new : List Item} where
  none_added : new ≡ old → (entry : Option Item) × Adds shape old new entry
  none_added same = (None, record { logged = same ∙ sym (append-nil old); sound = All-nil (IsSound shape) })

  one_added : (entry : Item) → new ≡ old ++ entry ∷ [] → IsSound shape entry → (entry : Option Item) × Adds shape old new entry
  one_added entry is one = (Some entry, record { logged = is; sound = All-cons (IsSound shape) entry [] one (All-nil (IsSound shape)) })

-- a fact about what is there, if anything, as one about whatever that is
if_any : {X : Type 0} (P : X → Type 0) (found : Option X) → IfSome found P → ForSome found P
if_any P None holds x is = cc
if_any P (Some y) holds x is = subst P (same_Some y x is) holds

-- the core, the block and the word of an operation are there
abbrev IsDidWithin : Extent → Did → Type 0
IsDidWithin shape did = (did.core < shape.cores) × (did.block < shape.blocks) × (did.word < shape.words)

-- an Ask's row adds its hit, or nothing
module _ (s : Situation) (core block word : ℕ) (asking : Op) (within : IsWithin s core block) (there : HasWord s.shape word asking)
    (next : CacheState) (old new : Line) (answer : Reply) where
  row_adds : {log : List Item} (act : CacheAction) (entry : Option Item) → Takes act next s.log core block word asking old new answer entry
      → log ≡ s.log ++ option_to_list entry → (entry : Option Item) × Adds s.shape s.log log entry
  row_adds action.Hit entry took logged =
      let has : IsWord s.shape word = grind (arith, there, took.1.0.performed) in
      let did = next_did s.log core block word asking took.0 true in
      one_added (item.Did did) (rw took.1.2 at logged) (record {
        within = record { core = within.0; block = within.1; sender = if_any _ None tt; operation = if_any _ (Some did) (within.0, within.1, has.0) };
        of_one_block = tt;
      })
  row_adds act entry took logged =
      let none : entry ≡ None = grind (arith, took) in
      none_added (rw none at logged ∙ append-nil s.log)

-- a step adds one item at most
move_adds : (block : ℕ) (old new : Situation) (step : Step) (answer : Reply) → Invariant old → MoveOn block old step answer new
    → (entry : Option Item) × Adds old.shape old.log new.log entry
move_adds block old new (Ask core on word asking) answer kept move = elim move.moves [
  | inl absent ↦ none_added (ap (λ (s : Situation). s.log) absent.3)
  | inr asks ↦ row_adds old core block word asking move.within move.has_word asks.row.next _ asks.held answer asks.row.action asks.entry asks.taken
      (ap (λ (s : Situation). s.log) asks.after)
]
move_adds block old new (Order core) answer kept move =
    one_added _ (ap (λ (s : Situation). s.log) move.orders.after) (record {
      within = record { core = move.within.0; block = move.within.1; sender = if_any _ None tt; operation = if_any _ None tt };
      of_one_block = tt;
    })
move_adds block old new (Respond on) answer kept move =
    let closing = move.closing in
    let responds = move.responds in
    let here = kept.blocks block move.within in
    let core = here.requestor_in closing responds.opened in
    let placed : closing.block < old.shape.blocks = rw (kept.opened block closing responds.opened) move.within in
    let done : IfSome move.did (IsDidWithin old.shape) × IfSome move.did (λ did. did.block ≡ closing.block) =
    elim (by_request closing.request responds.requestor) [
      | inl put ↦ rw put.2 (tt, tt)
      | inr (_, fills) ↦ rw fills.logged ((core, placed, (kept.accesses closing.core block fills.asking fills.fills.waited).0), refl)
    ] in
    one_added _ (ap (λ (s : Situation). s.log) responds.after) (record {
      within = record { core = core; block = placed; sender = here.sender_in closing responds.opened; operation = if_any _ move.did done.0 };
      of_one_block = done.1;
    })

step_adds : (old new : Situation) (step : Step) (outcome : Result Reply Refused) → Invariant old → GoesFirst old step outcome new
    → (entry : Option Item) × Adds old.shape old.log new.log entry
step_adds old new step (Ok answer) kept goes = move_adds goes.0 old new step answer kept goes.1.1
step_adds old new step (Err cause) kept refused = none_added (ap (λ (s : Situation). s.log) refused.1)

last_got : {X : Type 0} (xs : List X) (entry : Option X) → slice_get (xs ++ option_to_list entry) (length xs) ≡ entry
last_got xs entry = grind (arith, gets, common_steps)

frame_adds : (frame : Frame) → (entry : Option Item) × Adds frame.before.shape frame.before.log frame.after.log entry
    → Adds frame.before.shape frame.before.log frame.after.log (item_of frame)
frame_adds frame adds = rw (ap (λ (l : List Item). slice_get l (length frame.before.log)) adds.1.logged ∙ last_got frame.before.log adds.0) adds.1

-- a run: the machine has its shape before each step, and the history is what the steps added, all of it sound
abbrev IsShapedBefore : Extent → Frame → Type 0
IsShapedBefore shape frame = IsShaped frame.before × (frame.before.shape ≡ shape)

record IsRun (frames : List Frame) (old new : Situation) : Type 0 where
  pub shaped : All (IsShapedBefore old.shape) frames
  pub logged : new.log ≡ old.log ++ items_in frames
  pub sound : All (IsSound old.shape) (items_in frames)

are_run : (frames : List Frame) (old new : Situation) → IsSteady old → FramesFrom old frames new → IsRun frames old new
are_run [] old new steady run =
    record { shaped = All-nil (IsShapedBefore old.shape); logged = rw run (sym (append-nil old.log)); sound = All-nil (IsSound old.shape) }
are_run (f ∷ fs) old new steady run =
    let from : IsSteady f.before = rw run.0.before steady in
    let goes = run.0.goes in
    let adds = frame_adds f (step_adds f.before f.after f.step f.outcome from.0 goes) in
    let rest = are_run fs f.after new (steady_on keeps_well f.before f.step f.outcome f.after from goes) run.1 in
    let shape : f.before.shape ≡ old.shape = ap (λ (s : Situation). s.shape) run.0.before in
    let same : f.after.shape ≡ old.shape = (goes_alike f.before f.step f.outcome f.after goes).1 ∙ shape in
    let added : List Item = option_to_list (item_of f) in
    record {
      shaped = All-cons (IsShapedBefore old.shape) f fs (from.0.shaped, shape) (rw same at rest.shaped);
      logged = rest.logged ∙ ap (λ (l : List Item). l ++ items_in fs) (adds.logged ∙ ap (λ (s : Situation). s.log ++ added) run.0.before)
          ∙ append_assoc old.log added (items_in fs);
      sound = All-append (IsSound old.shape) added (items_in fs) (rw shape at adds.sound) (rw same at rest.sound);
    }

-- a test that no line passes is passed by items alone
items_alone : (p : Happening → Bool)
    → ((step : Step) (outcome : Result Reply Refused) (line : Taken) (why : Option Cause) → p (happening.Line step outcome line why) ≡ false)
    → (earlier frames : List Frame) → length (filter p (seen_after earlier frames)) ≡ length (filter (λ entry. p (happening.Item entry)) (items_in frames))
items_alone p fails earlier [] = refl
items_alone p fails earlier (frame ∷ frames) =
    let of_line : Taken → Happening = λ line. happening.Line frame.step frame.outcome line (cause_of earlier (operation_in frame) line) in
    let lines = lines_of_step frame.before frame.step frame.outcome in
    let none = fold_stays (λ n line. n + once (p (of_line line))) 0 (λ line. rw (fails frame.step frame.outcome line _) refl) lines in
    let rest = simp length-filter at (items_alone p fails (earlier ++ frame ∷ []) frames) in
    simp (filter-append, length-append, length-filter, fold-map) (omega arith)

sum_zero : (xs : List ℕ) → sum_by (λ (s : ℕ). 0) xs ≡ 0
sum_zero xs = fold_stays (λ n s. n + 0) 0 (λ s. refl) xs

sum_two : (f g : ℕ → ℕ) (xs : List ℕ) → sum_by (λ s. f s + g s) xs ≡ sum_by f xs + sum_by g xs
sum_two f g [] = refl
sum_two f g (x ∷ xs) = grind (arith, sum_by_from, sum_two f g xs)

-- each element that passes does so for one number of a list: the sum over them is how many pass
module _ {X : Type 0} (q : ℕ → X → Bool) (p : X → Bool) (numbers : List ℕ) where
  abbrev IsOnce : X → Type 0
  IsOnce x = sum_by (λ s. once (q s x)) numbers ≡ once (p x)

  sum_kept : (xs : List X) → All IsOnce xs → sum_by (λ s. length (filter (q s) xs)) numbers ≡ length (filter p xs)
  sum_kept [] all = sum_zero numbers
  sum_kept (x ∷ xs) all =
      simp kept_if (rw (sum_two (λ s. once (q s x)) (λ s. length (filter (q s) xs)), All-head IsOnce x xs all, sum_kept xs (All-tail IsOnce x xs all)))

-- one number of a range is the one
one_of : (k a n : ℕ) → sum_by (λ s. once (k == s)) (range_with_len a n) ≡ cond (nat_lt k a) 0 (once (nat_lt k (a + n)))
one_of k a zero = grind (arith, nat_tests)
one_of k a (suc n) = grind (arith, nat_tests, one_of k (a + 1) n, sum_by_from)

-- so what is counted is counted for one of so many, where it is counted for one that is there
ones : (many : ℕ) (here : Bool) (found : Option ℕ) → (here ≡ true → IsSomeAnd found (λ k. k < many))
    → sum_by (λ s. once (here && is_it found s)) (range_with_len 0 many) ≡ once here
ones many false found there = sum_zero (range_with_len 0 many)
ones many true None there = absurd (there refl)
ones many true (Some k) there = let low = there refl in grind (arith, nat_tests, one_of k 0 many)

-- the sum of a count over so many is how often it is counted, if each time for one that is there
abbrev IsThere : Subjects → ℕ → Count → Happening → Type 0
IsThere whose many c seen = counts c seen ≡ true → IsSomeAnd (subject_of whose c seen) (λ k. k < many)

sum_once : (whose : Subjects) (many : ℕ) (c : Count) (seen : List Happening) → All (IsThere whose many c) seen
    → sum_of whose many seen c ≡ length (filter (counts c) seen)
sum_once whose many c seen there =
    sum_kept (λ s. is_counted whose s c) (counts c) (range_with_len 0 many) seen
    (λ k d low. ones many (counts c (get_or seen k d)) (subject_of whose c (get_or seen k d)) (there k d low))

-- a core sent it, and is there
sender_there : (cores blocks words : ℕ) (entry : Item) → IsItemWithin cores blocks words entry → counts_item count.Supplied entry ≡ true
    → IsSomeAnd (response_sender (happening.Item entry)) (λ k. k < cores)
sender_there cores blocks words (item.Came came did) within by_core = grind (arith, within.sender)
sender_there cores blocks words entry within by_core = absurd (false≢true by_core)

-- words of different blocks stand in different places
same_place : (a b words x y : ℕ) → x < words → y < words → (a * words + x == b * words + y) ≡ (a == b && x == y)
same_place a b words x y in_x in_y = grind (arith, nat_tests, same_from_place a x b y words in_x in_y)

-- how often something passes that an item performed, for a word and for its block
module _ (cores blocks words b : ℕ) (few : words * blocks ≤ 2 ^ 32) (test : Did → Bool) where
  -- of the words of a block one has the operation, if the block has it
  did_ones : (did : Did) → (did.core < cores) × (did.block < blocks) × (did.word < words)
      → sum_by (λ w. once (test did && is_it (named_place (place_of words did.block did.word)) (place_of words b w))) (range_with_len 0 words)
      ≡ once (test did && did.block == b)
  did_ones did within =
      let place : ℕ = did.block * words + did.word in
      let fits : place < 2 ^ 32 = omega (arith, mul-add-lt did.block words did.word blocks within.1 within.2) in
      let is : named_place place ≡ Some place = rw (lt-ltb place (2 ^ 32) fits) refl in
      let same = filter_range (λ w. test did && is_it (named_place place) (b * words + w)) (λ w. (test did && did.block == b) && is_it (Some did.word) w)
      0 words (λ w low high. rw (is, same_place did.block b words did.word w within.2 (omega arith)) (grind arith)) in
      sym (length-filter _ (range_with_len 0 words)) ∙ ap length same ∙ length-filter _ (range_with_len 0 words)
      ∙ ones words (test did && did.block == b) (Some did.word) (λ _. within.2)

  performed_ones : (entry : Item) → IsItemWithin cores blocks words entry → IsOfOneBlock entry
      → sum_by (λ w. once (performed test entry && is_it (own_word words (happening.Item entry)) (place_of words b w))) (range_with_len 0 words) ≡ once (performed test entry && block_of entry == b)
  performed_ones (item.Did did) within one = did_ones did (within.operation did refl)
  performed_ones (item.Came came (Some did)) within one = rw (← one) (did_ones did (within.operation did refl))
  performed_ones entry within one = sum_zero (range_with_len 0 words)

-- an invalidation is another's GetM, of a core that holds something
invalidated : (state : CacheState) (event : CacheEvent) → is_invalidation state event ≡ true → (event ≡ OtherGetM) × (state ≡ I → ⊥)
invalidated state event is = grind arith

not_arriving : (payload : Payload) → Some OtherGetM ≡ arrival payload → ⊥
not_arriving payload is = grind arith

-- a core that holds something is there
core_in : (s : Situation) → IsShaped s → (core block : ℕ) → (state_of s core block ≡ I → ⊥) → core < s.shape.cores
core_in s shaped core block held =
    let row = get_or_past (picture_of s block).caches core nothing_held in
    let picture = get_or_past s.pictures block nothing_there in
    grind (arith, cases_lt core s.shape.cores, cases_lt block s.shape.blocks, held, row, picture, shaped.row block, shaped.pictures)

-- for a line that is an invalidation the cores are there, that of the line and that whose Order the step is
abbrev AreThere : ℕ → Happening → Type 0
AreThere cores seen = IsSomeAnd (own_core seen) (λ k. k < cores) × IsSomeAnd (requestor_of seen) (λ k. k < cores)

requestor_there : (s : Situation) → IsShaped s → (step : Step) (outcome : Result Reply Refused) (line : Taken) (why : Option Cause) (core block : ℕ)
    → ConsultsCache s step core block (Some OtherGetM) → IsSomeAnd (requestor_of (happening.Line step outcome line why)) (λ k. k < s.shape.cores)
requestor_there s shaped (Ask asker on word op.Load) outcome line why core block looks = let is = looks.3 in absurd cc
requestor_there s shaped (Ask asker on word asking) outcome line why core block looks = let is = looks.3 in absurd cc
requestor_there s shaped (Order requestor) outcome line why core block looks =
    core_in s shaped requestor block (λ idle. let none : None ≡ Some looks.0 = sym (ap waiting_request idle) ∙ looks.1.0.0 in cc)
requestor_there s shaped (Respond on) outcome line why core block looks = absurd (not_arriving looks.0.payload looks.1.4)

line_there : (frame : Frame) → IsShaped frame.before → (line : Taken) (why : Option Cause) → FitsStep frame line → has_row is_invalidation line ≡ true
    → AreThere frame.before.shape.cores (happening.Line frame.step frame.outcome line why)
line_there frame shaped (Core core block (Some event) before) why row is =
    let made = invalidated before event is in (
      core_in frame.before shaped core block (λ idle. made.1 (row.held ∙ idle)),
      requestor_there frame.before shaped frame.step frame.outcome (Core core block (Some event) before) why core block (rw made.0 at row.looks),
    )
line_there frame shaped line why fits is = absurd (false≢true is)

-- an invalidation is a row that is one
by_row : (step : Step) (outcome : Result Reply Refused) (line : Taken) (why : Option Cause)
    → counts count.Invalidated (happening.Line step outcome line why) ≡ has_row is_invalidation line
by_row step outcome line why = simp (not_refused outcome, no_cause why, or-false) refl

-- the counts of a run
module _ (protocol : Protocol) (shape : Extent) (frames : List Frame) (final : Situation) (run : FramesFrom (reset protocol shape) frames final) where
  is_run : IsRun frames (reset protocol shape) final
  is_run = are_run frames (reset protocol shape) final (reset_steady protocol shape) run

  item_sound : (entry : Item) → Contains (items_in frames) entry → IsSound shape entry
  item_sound entry here = All-contains (IsSound shape) (items_in frames) entry is_run.sound here

  -- the sum of a count of items, each of which is counted for one that is there
  items_sum : (whose : Subjects) (many : ℕ) (c : Count) → IsOfItems c
      → ((entry : Item) → IsItemWithin shape.cores shape.blocks shape.words entry → IsThere whose many c (happening.Item entry))
      → sum_of whose many (happenings frames) c ≡ how_many (counts_item c) final.log
  items_sum whose many c items there =
      sum_once whose many c (happenings frames)
      (all_seen (IsThere whose many c) [] frames
      (λ before frame line here in_lines is. absurd (both_ways _ (no_line c items frame.step frame.outcome line _) is))
      (λ entry here. there entry (item_sound entry here).within))
      ∙ items_alone (counts c) (no_line c items) [] frames ∙ ap (how_many (counts_item c)) (sym is_run.logged)

  -- of the counts of the report, over all cores or all blocks
  module _ (whose : Subjects) (many : ℕ)
      (there : (c : Count) → core_counted c ≡ own_core → (entry : Item) → IsItemWithin shape.cores shape.blocks shape.words entry
      → IsSomeAnd (subject_of whose c (happening.Item entry)) (λ k. k < many)) where
    total : (c : Count) → IsOfItems c → core_counted c ≡ own_core → sum_of whose many (happenings frames) c ≡ how_many (counts_item c) final.log
    total c items own = items_sum whose many c items (λ entry inside counted. there c own entry inside)

    sums_total : sums_of whose many (happenings frames) ≡ totals_of final.log
    sums_total = λ i. record {
      loads = total count.Loads refl refl i;
      load_hits = total count.LoadHits refl refl i;
      stores = total count.Stores refl refl i;
      store_hits = total count.StoreHits refl refl i;
      get_s = total count.GetS refl refl i;
      get_m = total count.GetM refl refl i;
      put_m = total count.PutM refl refl i;
      from_memory = total count.FromMemory refl refl i;
      from_caches = total count.FromCaches refl refl i;
      writebacks = total count.Writebacks refl refl i;
      clean = total count.Clean refl refl i;
      stale = total count.Stale refl refl i;
    }

  pub has_totals : HasTotals shape frames final.log
  has_totals = record {
    cores = sums_total Cores shape.cores (λ c own entry inside. rw own inside.core);
    blocks = sums_total Blocks shape.blocks (λ c own entry inside. inside.block);
    machine = sums_total subjects.Machine 1 (λ c own entry inside. omega arith);
  }

  -- for each invalidation the cores are there
  invalidations_there : All (λ seen. counts count.Invalidated seen ≡ true → AreThere shape.cores seen) (happenings frames)
  invalidations_there =
      all_seen (λ seen. counts count.Invalidated seen ≡ true → AreThere shape.cores seen) [] frames
      (λ before frame line here in_lines is.
      let why = cause_of before (operation_in frame) line in
      let shaped = All-contains (IsShapedBefore shape) frames frame is_run.shaped here in
      let fits = (All-contains ShowsRows frames frame (lines_fit protocol shape frames final run) here).fit in
      rw shaped.1 at
      (line_there frame shaped.0 line why (All-contains (FitsStep frame) _ line fits in_lines) (sym (by_row frame.step frame.outcome line why) ∙ is)))
      (λ entry here is. absurd (false≢true is))

  pub suffers : SuffersWhatIsDone shape frames
  suffers = record {
    invalidates = sum_once Cores shape.cores count.Invalidates (happenings frames) (λ k d low is. (invalidations_there k d low is).1)
        ∙ sym (sum_once Cores shape.cores count.Invalidated (happenings frames) (λ k d low is. (invalidations_there k d low is).0));
    supplied = items_sum Cores shape.cores count.Supplied refl (sender_there shape.cores shape.blocks shape.words)
        ∙ sym (items_sum Cores shape.cores count.FromCaches refl (λ entry inside sent. inside.core));
  }

  -- the counts of the words of a block have the sum that the block has
  words_sum : IsWithinLimits shape → (c : Count) (test : Did → Bool) → counts_item c ≡ performed test → IsOfItems c → (b : ℕ)
      → sum_of_words shape (happenings frames) b c ≡ times_counted Blocks (happenings frames) b c
  words_sum limits c test is items b =
      let few : shape.words * shape.blocks ≤ 2 ^ 32 = omega (arith, mul-le shape.words shape.blocks 64 65536 limits.words.1 limits.blocks.1) in
      let of_word : ℕ → Happening → Bool = λ w. is_counted (Words shape.words) (place_of shape.words b w) c in
      let numbers : List ℕ = range_with_len 0 shape.words in
      sum_kept of_word (is_counted Blocks b c) numbers (happenings frames)
      (all_seen (IsOnce of_word (is_counted Blocks b c) numbers) [] frames
      (λ before frame line here in_lines. rw (no_line c items frame.step frame.outcome line (cause_of before (operation_in frame) line)) (sum_zero numbers))
      (λ entry here. let sound = item_sound entry here in
      rw is (performed_ones shape.cores shape.blocks shape.words b few test entry sound.within sound.of_one_block)))

  pub sums_of_words : IsWithinLimits shape → (b : ℕ) → HasSumsOfWords shape (happenings frames) b
  sums_of_words limits b = record {
    loads = words_sum limits count.Loads (λ did. did.load) refl refl b;
    load_hits = words_sum limits count.LoadHits (λ did. did.load && did.hit) refl refl b;
    stores = words_sum limits count.Stores (λ did. not did.load) refl refl b;
    store_hits = words_sum limits count.StoreHits (λ did. not did.load && did.hit) refl refl b;
  }
