-- What a turn answers is the outcome of the work.
use Rattle.std.proofs.Common.{◌≡◌, ◌≢◌, ℕ, ◌++◌, Bool, true, false, List, [], ◌∷◌, Option, Some, None, nat_lt, refl, ap, ◌∙◌, arith}
use Rattle.snoop_bench.proofs.Common.{Access, access_of, Ask, Asked, Case, EndsWith, eq-eqb, Finishes, IsClosed, IsLast, IsOp, Item, last_of, last_of-push, Locked, lt-ltb, ne_eqb, next_did, Ok, Op, over, record_of, Reply, Situation, Step, TakesAndPublishes, turn_asked, turn_of, turn_over, TurnLaws, TurnsIn, Work, works_asked, if◌then◌else◌}
use Rattle.snoop_trace.specs.declared.step.Op.TheVariants as op
use Rattle.snoop_history.specs.declared.items.Did.{Did}
use Rattle.snoop_history.specs.declared.items.Item.TheVariants as item
use Rattle.snoop_model.specs.declared.replies.Reply.TheVariants as reply
use Rattle.snoop_model.specs.Moves.Replies.{Tells}
use Rattle.snoop_bench.{specs.declared.work.Turn.Turn, proofs.Turning.{Facing, IsCase, IsCase.{ordering, helping, ending}}}
use Rattle.snoop_bench.specs.declared.work.Turn.TheVariants as turn

is_op : (did : Did) (load : Bool) → did.load ≡ load → IsOp (if load then op.Load else op.Store did.value) did
is_op did load e = grind arith

-- the operation that is the access of the work does it
pub ends_with : (s : Situation) (core : ℕ) (work : Work) → IsLast s core work.block (access_of work) → (did : Did) × EndsWith s core work did
ends_with s core work (did, last, on, same) =
    (did, record { last = last; does = (on, ap (λ (a : Access). a.word) same, rw (← ap (λ (a : Access). a.op) same) (is_op did did.load refl)) })

-- a work with no step left is answered by its operation, the last of the core's in the log
pub finishes : TurnLaws → {s : Situation} {works : List (Option Work)} {core : ℕ} {work : Work} → Facing s works core work None
    → (last : Option Did) → last ≡ (if nat_lt core s.shape.cores then last_of s.log core else None) → Finishes s core work work.op (turn_over work.op last)
finishes rule {s} {works} {core} {work} f last is =
    let last_one = rule.closed_is_last s core work.block work.word work.op (access_of work) f.well in
    by_op work.op (λ isnt. ends_with s core work (last_one (f.under.owed core work f.its isnt) f.step_is))
  where
    by_op : (asking : Op) → (asking ≢ op.Evict → (did : Did) × EndsWith s core work did) → Finishes s core work asking (turn_over asking last)
    by_op op.Load ended =
        let d = ended (λ e. cc) in
        (d.0, (d.1, rw (is, lt-ltb core s.shape.cores f.inside.0, d.1.last) refl))
    by_op (op.Store v) ended = let d = ended (λ e. cc) in (d.0, (d.1, refl))
    by_op op.Evict ended = refl

-- a hit performs the core's last operation
module _ (p q : Locked) (core block word : ℕ) where
  hit_ends : (asking : Op) (value : ℕ)
      → (let did = next_did p.situation.log core block word asking value true in
      IsOp asking did → q.situation.log ≡ p.situation.log ++ item.Did did ∷ [] → EndsWith q.situation core (record { block = block; word = word; op = asking }) did)
  hit_ends asking value does logged =
      let did = next_did p.situation.log core block word asking value true in
      record {
        last = ap (λ (l : List Item). last_of l core) logged ∙ last_of-push p.situation.log (item.Did did) core ∙ rw (eq-eqb core core refl) refl;
        does = (refl, refl, does);
      }

  -- what an Ask answers, and the works after it
  pub asked_so : (asking : Op) (answer : Reply) (given : Turn) → Tells p.situation.log (Ask core block word asking) (Ok answer) q.situation.log
      → given ≡ turn_asked answer → q.works ≡ works_asked answer p.works core (record { block = block; word = word; op = asking })
      → Asked answer core (record { block = block; word = word; op = asking }) given p q
  asked_so op.Load (reply.Hit value) given told e w = (e, (_, hit_ends op.Load value refl told, refl), w)
  asked_so (op.Store value) reply.StoreHit given told e w = (e, (_, hit_ends (op.Store value) value (refl, refl) told), w)
  asked_so asking (reply.Issued request) given told e w = (e, w)
  asked_so op.Evict reply.Gone given told e w = (e, w)
  asked_so op.Evict reply.Absent given told e w = (e, w)
  asked_so asking answer given told e w = absurd told

module _ (core : ℕ) (work : Work) {answer : Reply} where
  -- the turn of a core whose request waits
  pub served_turn : {k : Case} {step : Step} (p q : Locked) → IsCase core work.block k true (Some step)
      → TakesAndPublishes step answer (record_of p) (record_of q) → q.works ≡ p.works → TurnsIn k core work turn.Going p q
  served_turn p q ordering took same = (answer, (took, (refl, same)))
  served_turn p q helping took same = (answer, (took, (refl, same)))

  -- the turn of a core whose own transaction is open: with the response its work is over
  pub finished_turn : {k : Case} {step : Step} (given : Turn) (p m q : Locked) → IsCase core work.block k false (Some step)
      → TakesAndPublishes step answer (record_of p) (record_of m) → m.works ≡ p.works → TurnsIn over core work given m q → TurnsIn k core work given p q
  finished_turn given p m q ending took same t =
      let same_record : record_of q ≡ record_of m = λ i. record { situation = t.0.situation i; steps = t.0.steps i; published = t.0.published i } in
      (answer, (rw same_record took, (t.1.0, rw (← same) t.1.1)))

-- a core that neither waits nor has its transaction open has no step left
pub closed_turn : (s : Situation) (core block word : ℕ) (asking : Op) → IsClosed s core block → turn_of s core block word asking true ≡ None
closed_turn s core block word asking shut = grind (arith, ne_eqb, shut.waits, shut.opened_by_other)
