-- What the type of a bench keeps.
-- Source: this project's profile.
use Rattle.std.specs.Prelude.{◌≡◌, ◌≢◌, ℕ, List, length, Option, Some}
use Rattle.snoop_trace.specs.declared.step.Op.TheVariants as op
use Rattle.snoop_model.specs.{declared.access.Access.Access, Pictures.Situation.{Situation, held_of}, Turns.Serving.IsServing}
use Rattle.snoop_model.specs.Runs.Owed.{IsOwed}
use Rattle.snoop_trace.specs.declared.step.Work.{Work}
use Rattle.snoop_bench.specs.{declared.bench.Bench.TheInside.Inside, Works.{access_of, work_at, works_under_way}, Locked.Locked}

-- a bench as callers see it
abbrev pub locked : Inside → Locked
locked b = record { situation = b.recorder.situation; steps = b.recorder.steps; works = b.works.items; published = b.recorder.published }

-- works under way fit a situation
pub record AreUnderWay (works : List (Option Work)) (s : Situation) : Type 0 where
  pub places : length works ≡ s.shape.cores
  -- a core waits, and has a transaction open, on no block but that of its work under way
  pub serving : IsServing (works_under_way works) s
  -- an operation that waits is that of the core's work under way
  pub waiting : (core block : ℕ) (wanted : Access) → (held_of s core block).waiting ≡ Some wanted → work_at works core ≡ Some (record { block = block; word = wanted.word; op = wanted.op })
  -- the load or store of a work under way waits, or is the core's last operation
  pub owed : (core : ℕ) (work : Work) → work_at works core ≡ Some work → work.op ≢ op.Evict → IsOwed s core work.block (access_of work)

-- what every bench keeps
abbrev pub BenchKeeps : Inside → Type 0
BenchKeeps b = AreUnderWay b.works.items b.recorder.situation
