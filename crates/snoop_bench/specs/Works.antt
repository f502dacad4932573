-- A core's work under way, and the operation that does it.
-- Source: this project's profile.
use Rattle.std.specs.Prelude.{◌≡◌, ℕ, ◌<◌, ◌^◌, List, Option, true, false, slice_get, option_map, option_and_then, ⊤}
use Rattle.snoop_trace.specs.declared.step.{Op.Op, Work.Work}
use Rattle.snoop_trace.specs.declared.step.Op.TheVariants as op
use Rattle.snoop_history.specs.declared.items.Did.{Did}
use Rattle.snoop_model.specs.declared.access.Access.{Access}

-- the core's work under way, if any
abbrev pub work_at : List (Option Work) → ℕ → Option Work
work_at works core = option_and_then (λ work. work) (slice_get works core)

-- the block of the core's work under way
abbrev pub works_under_way : List (Option Work) → ℕ → Option ℕ
works_under_way works core = option_map (λ work. work.block) (work_at works core)

-- the word that an operation is asked of; an eviction's is 0, whatever was given
abbrev pub asked_word : Op → ℕ → ℕ
asked_word op.Load word = word
asked_word (op.Store value) word = word
asked_word op.Evict word = 0

-- a work as it is asked: an eviction is of no word, and its word is 0
abbrev pub as_asked : Work → Work
as_asked work = record { block = work.block; word = asked_word work.op work.word; op = work.op }

-- what is stored is a number
abbrev pub StoresNumber : Op → Type 0
StoresNumber op.Load = ⊤
StoresNumber (op.Store value) = value < 2 ^ 64
StoresNumber op.Evict = ⊤

-- the operation of a work, on its word
abbrev pub access_of : Work → Access
access_of work = record { word = work.word; op = work.op }

-- the operation is a load, or a store of the value; an eviction is none
abbrev pub IsOp : Op → Did → Type 0
IsOp op.Load did = did.load ≡ true
IsOp (op.Store value) did = (did.load ≡ false) × (did.value ≡ value)
IsOp op.Evict did = ⊥

-- the operation does the work
abbrev pub Does : Did → Work → Type 0
Does did work = (did.block ≡ work.block) × (did.word ≡ work.word) × IsOp work.op did
