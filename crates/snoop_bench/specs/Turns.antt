-- The turn of a core with a work: at most one step, by the first of five cases.
-- Source: this project's profile.
use Rattle.std.specs.Prelude.{◌≡◌, ℕ, ◌==◌, Bool, true, false, Option, Some, None, is_some, slice_set, if◌then◌else◌}
use Rattle.snoop_trace.specs.declared.step.{Op.Op, Step.TheVariants.{Ask, Order, Respond}, Work.Work}
use Rattle.snoop_trace.specs.declared.step.Op.TheVariants as op
use Rattle.snoop_rules.specs.{declared.names.Request.Request, Waits.waiting_request}
use Rattle.snoop_bus.specs.Traffic.{Open}
use Rattle.snoop_history.specs.declared.items.Did.{Did}
use Rattle.snoop_model.specs.{declared.replies.Reply.Reply, Pictures.Situation.{Situation, picture_of, state_of}}
use Rattle.snoop_model.specs.declared.replies.Reply.TheVariants as reply
use Rattle.snoop_bench.specs.declared.work.Evicted.TheVariants as evicted
use Rattle.snoop_bench.specs.{declared.work.Turn.Turn, Works.work_at, Recording.TakesAndPublishes, Locked.{Locked, record_of, EndsWith}}
use Rattle.snoop_bench.specs.declared.work.Turn.TheVariants as turn

-- the cases of a turn
pub data Case : Type 0 where
  -- no work is under way: the core asks
  asks : Case
  -- its request waits, and the block is free: it is ordered
  orders : Case
  -- its request waits, and the block's transaction is open: that one gets its response
  helps : Case
  -- its own transaction is open: it gets its response, and the work is over
  ends : Case
  -- another core's turn has closed its transaction: the work is over
  over : Case

-- the case of a work under way, by the request that waits on the block and by the block's open transaction
abbrev pub case_under_way : Option Request → Option Open → ℕ → Case
case_under_way (Some request) None core = orders
case_under_way (Some request) (Some transaction) core = helps
case_under_way None (Some transaction) core = if transaction.core == core then ends else over
case_under_way None None core = over

-- the case of a core's turn, whose work is under way or isn't
abbrev pub case_of : Situation → ℕ → ℕ → Bool → Case
case_of s core block false = asks
case_of s core block true = case_under_way (waiting_request (state_of s core block)) (picture_of s block).transaction core

-- no step is taken
pub record Rests (p q : Locked) : Type 0 where
  pub situation : q.situation ≡ p.situation
  pub steps : q.steps ≡ p.steps
  pub published : q.published ≡ p.published

-- what is answered when a work is over that was under way: a load has the value of the core's last operation, which is that of the work
abbrev pub Finishes : Situation → ℕ → Work → Op → Turn → Type 0
Finishes s core work op.Load given = (did : Did) × (EndsWith s core work did × (given ≡ turn.Loaded did.value))
Finishes s core work (op.Store value) given = (did : Did) × (EndsWith s core work did × (given ≡ turn.Stored))
Finishes s core work op.Evict given = given ≡ turn.Evicted evicted.Put

-- the core's place among the works after its Ask, and what is answered: a request that was issued leaves the work under way
abbrev pub Asked : Reply → ℕ → Work → Turn → Locked → Locked → Type 0
Asked (reply.Issued request) core work given p q = (given ≡ turn.Going) × (q.works ≡ slice_set p.works core (Some work))
Asked reply.Gone core work given p q = (given ≡ turn.Evicted evicted.Gone) × (q.works ≡ p.works)
Asked reply.Absent core work given p q = (given ≡ turn.Evicted evicted.Absent) × (q.works ≡ p.works)
Asked (reply.Hit value) core work given p q = (given ≡ turn.Loaded value) × ((did : Did) × EndsWith q.situation core work did × (did.value ≡ value)) × (q.works ≡ p.works)
Asked reply.StoreHit core work given p q = (given ≡ turn.Stored) × ((did : Did) × EndsWith q.situation core work did) × (q.works ≡ p.works)
Asked _ core work given p q = ⊥

-- a turn in its case
abbrev pub TurnsIn : Case → ℕ → Work → Turn → Locked → Locked → Type 0
TurnsIn asks core work given p q = (answer : Reply) × (TakesAndPublishes (Ask core work.block work.word work.op) answer (record_of p) (record_of q) × Asked answer core work given p q)
TurnsIn orders core work given p q = (answer : Reply) × (TakesAndPublishes (Order core) answer (record_of p) (record_of q) × ((given ≡ turn.Going) × (q.works ≡ p.works)))
TurnsIn helps core work given p q = (answer : Reply) × (TakesAndPublishes (Respond work.block) answer (record_of p) (record_of q) × ((given ≡ turn.Going) × (q.works ≡ p.works)))
TurnsIn ends core work given p q = (answer : Reply) × (TakesAndPublishes (Respond work.block) answer (record_of p) (record_of q) × (Finishes q.situation core work work.op given × (q.works ≡ slice_set p.works core None)))
TurnsIn over core work given p q = Rests p q × (Finishes q.situation core work work.op given × (q.works ≡ slice_set p.works core None))

-- one turn of the core with the work
abbrev pub Turns : ℕ → Work → Turn → Locked → Locked → Type 0
Turns core work given p q = TurnsIn (case_of p.situation core work.block (is_some (work_at p.works core))) core work given p q
