-- What a getter answers that answers inside a shape alone, and what a core's line says nothing of: values in a state that may not be read, a place where no request waits.
use Rattle.snoop_engine.proofs.Common.{common_steps, ◌≡◌, ℕ, Some, false, cond, refl, sym, arith, is_some, nat_tests, CacheState, Situation, state_of, state_at, List, [], ◌∷◌, length, ◌==◌, count_by, sum_by-cons, waiting_request, queue_of, held_by, picture_of, keeps, position_or_len, kept_at, kept_text, place_text, value_text}
use Rattle.{snoop_model.specs.Pictures.InQueue.IsInQueue, snoop_engine.proofs.RangeLemmas.range_stops}

-- a state that is found is the core's
pub state_there : (s : Situation) (core block : ℕ) (state : CacheState) → state_at s core block ≡ Some state → state_of s core block ≡ state
state_there s core block state is = grind (arith, common_steps, nat_tests)

pub none_kept : (s : Situation) (core block : ℕ) (state : CacheState) → Some state ≡ state_at s core block → is_some (held_by (picture_of s block) core).kept ≡ keeps (state_of s core block) → keeps state ≡ false → kept_text s core block ≡ []
none_kept s core block state at kept unread =
    let hidden : is_some (held_by (picture_of s block) core).kept ≡ false = rw (kept, state_there s core block state (sym at)) unread in
    range_stops (λ word. value_text word (kept_at s core block word)) 0 s.shape.words (omega arith) (λ word low high. grind (arith, common_steps, hidden))

none_before : (block : ℕ) (queue : List ℕ) → count_by (λ b. b == block) queue ≡ 0 → position_or_len (λ b. b == block) queue ≡ length queue
none_before block [] none = refl
none_before block (b ∷ bs) none = grind (arith, nat_tests, none_before block bs, sum_by-cons (λ (k : ℕ). cond (k == block) 1 0) b bs)

pub none_placed : (s : Situation) (core block : ℕ) (state : CacheState) → Some state ≡ state_at s core block → IsInQueue s core block → is_some (waiting_request state) ≡ false → place_text s core block ≡ []
none_placed s core block state at queued still =
    let idle : is_some (waiting_request (state_of s core block)) ≡ false = rw (state_there s core block state (sym at)) still in
    let past = none_before block (queue_of s.queues core) (rw idle at queued) in
    grind (arith, common_steps, nat_tests)
