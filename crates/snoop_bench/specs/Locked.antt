-- What lies under the lock, and what always holds of it.
-- Source: this project's profile.
use Rattle.std.specs.Prelude.{◌≡◌, ◌≢◌, ℕ, List, [], length, replicate, All, Option, Some, None}
use Rattle.snoop_trace.specs.{Extent.Extent, Output.IsReadableStep, declared.{step.{Step.Step, Work.Work}, protocol.Protocol.Protocol}}
use Rattle.snoop_trace.specs.declared.step.Op.TheVariants as op
use Rattle.snoop_rules.specs.declared.names.Request.{Request}
use Rattle.snoop_bus.specs.Traffic.{Open}
use Rattle.snoop_history.specs.{declared.items.{Did.Did, Item.Item}, History.last_of}
use Rattle.snoop_model.specs.{Pictures.Situation.{Situation, reset, picture_of, Waits}, Runs.Run.AllTaken, Turns.Serving.IsServing}
use Rattle.snoop_bench.specs.{Recording.Recording, Works.{work_at, works_under_way, Does}}

-- the machine's situation, the steps that it has taken, each core's work under way, and the list that is published
pub record Locked : Type 0 where
  pub situation : Situation
  pub steps : List Step
  pub works : List (Option Work)
  pub published : List Item

-- a bench at the start
abbrev pub opened : Protocol → Extent → Locked
opened protocol shape = record { situation = reset protocol shape; steps = []; works = replicate shape.cores None; published = [] }

-- the core neither waits on the block nor has its transaction open
pub record IsClosed (s : Situation) (core block : ℕ) : Type 0 where
  pub waits : (request : Request) → ¬ Waits s core block request
  pub opened_by_other : (transaction : Open) → (picture_of s block).transaction ≡ Some transaction → transaction.core ≢ core

-- the core's last operation is this one, and does the work
pub record EndsWith (s : Situation) (core : ℕ) (work : Work) (did : Did) : Type 0 where
  pub last : last_of s.log core ≡ Some did
  pub does : Does did work

-- the bench without the works
abbrev pub record_of : Locked → Recording
record_of b = record { situation = b.situation; steps = b.steps; published = b.published }

-- what every bench keeps
pub record IsKept (b : Locked) : Type 0 where
  -- the situation, with its log, is that of the run of the stored steps from reset, all taken
  pub run : AllTaken b.situation.protocol b.situation.shape b.steps b.situation
  -- each step is one that is read again from its text
  pub readable : All (IsReadableStep b.situation.shape) b.steps
  -- each core has a place for its work
  pub places : length b.works ≡ b.situation.shape.cores
  -- a core waits, and has a transaction open, on no block but that of its work under way
  pub serving : IsServing (works_under_way b.works) b.situation
  -- where a load or a store is under way that neither waits nor is open, the core's last operation is that of the work
  pub closed : (core : ℕ) (work : Work) → work_at b.works core ≡ Some work → work.op ≢ op.Evict → IsClosed b.situation core work.block → (did : Did) × EndsWith b.situation core work did
  -- the published list is the log
  pub published : b.published ≡ b.situation.log
