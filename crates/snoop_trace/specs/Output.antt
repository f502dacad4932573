-- What is written: the text of steps, and what a writer holds after a write.
-- Source: this project's profile.
use Rattle.std.specs.{Prelude.{◌<◌, ◌≡◌, ℕ, ◌+◌, ◌*◌, ◌/◌, ◌^◌, Bool, true, false, List, ◌++◌, codes, Option, Some}, Fmt.decimal, Io.KnownBytes.Appends}
use Rattle.std.specs.List.{flat_map}
use Rattle.snoop_trace.specs.{Extent.Extent, Heading.{heading_for, heading_text}, declared.{protocol.Protocol.Protocol, step.Step.Step}}
use Rattle.snoop_trace.specs.declared.step.{Op.TheVariants.{Load, Store, Evict}, Step.TheVariants.{Ask, Order, Respond}}

-- the first address of a block
abbrev pub address_of : Extent → ℕ → ℕ
address_of shape block = block * shape.block_bytes

-- the first address of a word of a block
abbrev pub word_address : Extent → ℕ → ℕ → ℕ
word_address shape block word = address_of shape block + word * (shape.block_bytes / shape.words)

-- the text of a step: its record without a line end, all numbers decimal, and for the word or the block its first address
abbrev pub step_text : Extent → Step → List ℕ
step_text shape (Ask core block word Load) = codes "L," ++ decimal core ++ codes "," ++ decimal (word_address shape block word)
step_text shape (Ask core block word (Store value)) = codes "S," ++ decimal core ++ codes "," ++ decimal (word_address shape block word) ++ codes "," ++ decimal value
step_text shape (Ask core block word Evict) = codes "E," ++ decimal core ++ codes "," ++ decimal (address_of shape block)
step_text shape (Order core) = codes "O," ++ decimal core
step_text shape (Respond block) = codes "R," ++ decimal (address_of shape block)

-- a step of the shape as it is read: its core, block and word are within it, a stored value is a number, and an eviction's word is 0
abbrev pub IsReadableStep : Extent → Step → Type 0
IsReadableStep shape (Ask core block word Load) = (core < shape.cores) × (block < shape.blocks) × (word < shape.words)
IsReadableStep shape (Ask core block word (Store value)) = (core < shape.cores) × (block < shape.blocks) × (word < shape.words) × (value < 2 ^ 64)
IsReadableStep shape (Ask core block word Evict) = (core < shape.cores) × (block < shape.blocks) × (word ≡ 0)
IsReadableStep shape (Order core) = core < shape.cores
IsReadableStep shape (Respond block) = block < shape.blocks

-- steps, one a line
abbrev pub steps_text : Extent → List Step → List ℕ
steps_text shape steps = flat_map (λ step. step_text shape step ++ codes "\n") steps

-- a text of steps of version 2: what the steps are for, and then the steps
abbrev pub text_of : Protocol → Extent → List Step → List ℕ
text_of protocol shape steps = heading_text (heading_for protocol shape) ++ codes "\n" ++ steps_text shape steps

-- a writer holds what it held, and then a beginning of the text
pub record AppendsFront (old new : Option (List ℕ)) (text : List ℕ) : Type 0 where
  pub front : List ℕ
  pub rest : List ℕ
  pub whole : text ≡ front ++ rest
  pub appends : Appends old new front

-- a front of the chunk has moved to the writer, and the chunk keeps the rest
pub record Spills (old : Option (List ℕ)) (chunk : List ℕ) (new : Option (List ℕ)) (left : List ℕ) : Type 0 where
  pub front : List ℕ
  pub whole : chunk ≡ front ++ left
  pub appends : Appends old new front

-- the writer has got a front of the text, and the chunk holds the rest
pub record Gathers (old new : Option (List ℕ)) (chunk text : List ℕ) : Type 0 where
  pub front : List ℕ
  pub appends : Appends old new front
  pub whole : text ≡ front ++ chunk

-- where it is known that no write to the writer had failed: one has failed since exactly where the writer is blamed
abbrev pub BlamesWriter : Option Bool → Option Bool → Type 0 → Type 0
BlamesWriter old new blamed = old ≡ Some false → (blamed → new ≡ Some true) × (¬ blamed → new ≡ Some false)
