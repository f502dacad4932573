-- The steps that packed steps stand for.
-- Source: this project's profile.
use Rattle.std.specs.Prelude.{ℕ, ◌==◌, List, [], ◌∷◌, drop, sum_by, slice_index_or, if◌then◌else◌}
use Rattle.snoop_trace.specs.{Extent.Extent, declared.step.Step.{Step, TheVariants.{Ask, Order, Respond}}}
use Rattle.snoop_trace.specs.declared.step.Op.TheVariants as op
use Rattle.snoop_engine.specs.declared.packed.{Kind.Kind, Head.Head}
use Rattle.snoop_engine.specs.declared.packed.Kind.TheVariants as kind

-- a shape as large as there is
abbrev pub largest : Extent
largest = record { cores = 256; blocks = 65536; block_bytes = 4096; words = 64 }

-- a step of this kind, of a head's core and block, with this word and this value where its kind has them
abbrev pub step_by : Kind → Head → ℕ → ℕ → Step
step_by kind.Load head word value = Ask head.core head.block 0 op.Load
step_by kind.Store head word value = Ask head.core head.block 0 (op.Store value)
step_by kind.Evict head word value = Ask head.core head.block 0 op.Evict
step_by kind.LoadOfWord head word value = Ask head.core head.block word op.Load
step_by kind.StoreOfWord head word value = Ask head.core head.block word (op.Store value)
step_by kind.EvictOfWord head word value = Ask head.core head.block word op.Evict
step_by kind.Order head word value = Order head.core
step_by kind.Respond head word value = Respond head.block

-- the step of a head, with this word and this value where its kind has them
abbrev pub step_of_head : Head → ℕ → ℕ → Step
step_of_head head word value = step_by head.kind head word value

-- the word that a step is of, as a list; a first word is left out
abbrev pub words_of : Step → List ℕ
words_of (Ask core block word asking) = if word == 0 then [] else word ∷ []
words_of _ = []

-- what the step stores, as a list
abbrev pub values_of : Step → List ℕ
values_of (Ask core block word (op.Store value)) = value ∷ []
values_of _ = []

-- how many words a step of this kind has
abbrev pub worded_by : Kind → ℕ
worded_by kind.LoadOfWord = 1
worded_by kind.StoreOfWord = 1
worded_by kind.EvictOfWord = 1
worded_by _ = 0

-- how many values a step of this kind stores
abbrev pub stored_by : Kind → ℕ
stored_by kind.Store = 1
stored_by kind.StoreOfWord = 1
stored_by _ = 0

-- how many words the steps have
abbrev pub worded_in : List Head → ℕ
worded_in heads = sum_by (λ (head : Head). worded_by head.kind) heads

-- how many values the steps store
abbrev pub stored_in : List Head → ℕ
stored_in heads = sum_by (λ (head : Head). stored_by head.kind) heads

-- the steps of these heads, in order, with these words and these values where their kinds have them
abbrev pub steps_in : List Head → List ℕ → List ℕ → List Step
steps_in [] words values = []
steps_in (head ∷ heads) words values =
    step_of_head head (slice_index_or words 0 0) (slice_index_or values 0 0) ∷ steps_in heads (drop (worded_by head.kind) words) (drop (stored_by head.kind) values)
