-- One block has a new picture after a move, and the others are as they were; and after a response the requestor's line is filled, or none is changed.
use Rattle.snoop_model.proofs.Common.{Access, arith, ArrivesFor, Ask, Asks, cases_eq, Did, false, FillsRequestor, get_or-set_other, get_or-set_same, get_or_past, held_at, held_by, inl, inr, Invariant, is_put_m, IsShaped, IsWithin, Item, length, length-set, Line, List, MoveOn, None, nothing_held, nothing_there, Op, Open, Option, Order, Orders, Picture, picture_of, Protocol, PutM, refl, Reply, Request, Respond, Responds, set_past, Situation, Some, Step, TakesRows, with_line, with_picture, ℕ, ◌<◌, ◌∙◌, ◌≡◌, ◌≢◌, ◌⊎◌}
use Rattle.snoop_model.proofs.Lists.{each_set, same_set}

-- a block of the shape has a picture
pub in_pictures : (s : Situation) (block : ℕ) → IsShaped s → block < s.shape.blocks → block < length s.pictures
in_pictures s block shaped within = rw shaped.pictures within

-- the situation after a move
abbrev pub changed : Situation → ℕ → Picture → List (List ℕ) → List Item → Situation
changed s block next queues log = record (with_picture s block next) { queues = queues; log = log }

module _ (s : Situation) (block : ℕ) (next : Picture) (queues : List (List ℕ)) (log : List Item) where
  pub picture_here : block < length s.pictures → picture_of (changed s block next queues log) block ≡ next
  picture_here within = get_or-set_same s.pictures block next nothing_there within

  -- what holds of each other block's picture and of the new one holds of each block's then
  pub each_picture : (P : ℕ → Picture → Type 0) → block < length s.pictures → ((b : ℕ) → b ≢ block → P b (picture_of s b)) → P block next → (b : ℕ)
      → P b (picture_of (changed s block next queues log) b)
  each_picture P within others here = each_set s.pictures block next nothing_there P within here others

  pub shaped_after : IsShaped s → length next.caches ≡ length (picture_of s block).caches → length queues ≡ length s.queues → IsShaped (changed s block next queues log)
  shaped_after shaped as_wide as_many = record {
    pictures = length-set s.pictures block next ∙ shaped.pictures;
    row = λ b within. same_set (λ (x : Picture). length x.caches) s.pictures block next nothing_there as_wide b ∙ shaped.row b within;
    queues = as_many ∙ shaped.queues;
  }

module _ {closing : Open} {p : Protocol} {log : List Item} {old new : List Line} {did : Option Did} where
  pub by_request : (q : Request) → ArrivesFor q closing p log old new did
      → ((q ≡ PutM) × (new ≡ old) × (did ≡ None)) ⊎ ((is_put_m q ≡ false) × FillsRequestor closing p log old new did)
  by_request q h = grind (arith, h)

  -- the requestor's line, or one that is as it was: where that is the requestor's too, no line is in its place
  pub filled_or_same : (fills : FillsRequestor closing p log old new did) (k : ℕ)
      → ((k ≡ closing.core) × (held_at new k ≡ fills.line)) ⊎ ((held_at new k ≡ held_at old k) × (k ≡ closing.core → held_at old k ≡ nothing_held))
  filled_or_same fills k = elim (cases_eq k closing.core) [
    | inr apart ↦ inr (rw fills.held (get_or-set_other old closing.core k fills.line nothing_held apart), λ e. absurd (apart e))
    | inl own ↦ grind (arith, fills.held, get_or-set_same old k fills.line nothing_held, set_past old k fills.line, get_or_past old k nothing_held)
  ]

  -- a line in which an operation still waits is as it was
  pub still_waiting : {q : Request} → ((q ≡ PutM) × (new ≡ old) × (did ≡ None)) ⊎ ((is_put_m q ≡ false) × FillsRequestor closing p log old new did)
      → (k : ℕ) (access : Access) → (held_at new k).waiting ≡ Some access → held_at new k ≡ held_at old k
  still_waiting arrived k access h = elim arrived [
    | inl put ↦ rw put.1 refl
    | inr (_, fills) ↦ grind (arith, filled_or_same fills k, fills.fills.held, h)
  ]

-- what holds of each line before and after its row, and of two that hold nothing, holds of each core's
pub each_taken : {p : Protocol} {core : ℕ} {request : Request} {old new : List Line} → TakesRows p core request old new → (k : ℕ) (P : Line → Line → Type 0)
    → (k < length old → P (held_at old k) (held_at new k)) → P nothing_held nothing_held → P (held_at old k) (held_at new k)
each_taken {p} {core} {request} {old} {new} taken k P row nothing =
    grind (arith, row, nothing, taken.same_length, get_or_past new k nothing_held, get_or_past old k nothing_held)

pub ask_line : (old : Situation) (c b word : ℕ) (asking : Op) (answer : Reply) (new : Situation) → Invariant old → IsWithin old c b
    → (a : Asks old c b word asking answer new) → held_by (picture_of new b) c ≡ a.held
ask_line old c b word asking answer new g within a =
    rw (a.after, get_or-set_same old.pictures b (with_line (picture_of old b) c a.held) nothing_there (in_pictures old b g.shaped within.1))
    (get_or-set_same (picture_of old b).caches c a.held nothing_held (rw (g.shaped.row b within.1) within.0))

pub order_here : (old : Situation) (c b : ℕ) (q : Request) (new : Situation) → Invariant old → IsWithin old c b → (o : Orders old c b q new) → picture_of new b ≡ o.next
order_here old c b q new g within o = rw o.after (get_or-set_same old.pictures b o.next nothing_there (in_pictures old b g.shaped within.1))

pub respond_here : (old : Situation) (b : ℕ) (closing : Open) (did : Option Did) (new : Situation) → Invariant old → b < old.shape.blocks
    → (r : Responds old b closing did new) → picture_of new b ≡ r.next
respond_here old b closing did new g within r = rw r.after (get_or-set_same old.pictures b r.next nothing_there (in_pictures old b g.shaped within))

-- a move leaves all lists as long as they are
pub still_shaped : (block : ℕ) (old : Situation) (step : Step) (answer : Reply) (new : Situation) → IsShaped old → MoveOn block old step answer new → IsShaped new
still_shaped block old (Ask core on word asking) answer new shaped m = elim m.moves [
  | inl absent ↦ rw absent.3 shaped
  | inr a ↦ rw a.after (shaped_after old block (with_line (picture_of old block) core a.held) _ _
      shaped (length-set _ core a.held) (grind (arith, length-set old.queues core)))
]
still_shaped block old (Order core) answer new shaped m =
    rw m.orders.after (shaped_after old block m.orders.next _ _ shaped m.orders.taken.same_length (length-set old.queues core _))
still_shaped block old (Respond on) answer new shaped m =
    let arrived = by_request m.closing.request m.responds.requestor in
    rw m.responds.after (shaped_after old block m.responds.next _ _ shaped (grind (arith, length-set {A = Line}, arrived)) refl)
