-- The words of a block.
-- Source: this project's profile.
use Rattle.std.{specs.Prelude.{◌≡◌, ◌<◌, ◌≤◌, ◌+◌, ◌-◌, ◌*◌, ◌++◌, ⊤, ℕ, List, length, replicate, slice_index_or, slice_set, take}, proofs.Math.Seq.take-append_seam}
use Rattle.snoop_trace.specs.{Extent.Extent, declared.step.Op.Op}
use Rattle.snoop_trace.specs.declared.step.Op.TheVariants as op

-- what a block holds: the values of its words, in as many places as a block may have words
abbrev pub Data : Type 0
Data = List ℕ

-- the most words that a block may have
abbrev pub word_places : ℕ
word_places = 64

-- the value of one word; 0 where there is none
abbrev pub word_at : Data → ℕ → ℕ
word_at words word = slice_index_or words word 0

-- the words of a block in which each is 0
abbrev pub zero_words : Data
zero_words = replicate word_places 0

-- each word from this one on is 0
abbrev pub AreZeroFrom : ℕ → Data → Type 0
AreZeroFrom count words = (word : ℕ) → count ≤ word → word_at words word ≡ 0

-- the values of a block that has so many words: those that it doesn't have are 0
abbrev pub padded : ℕ → List ℕ → Data
padded n values = values ++ replicate (word_places - n) 0

-- the words that a block has, of its values
pub taken-padded : (n : ℕ) (values : List ℕ) → length values ≡ n → take n (padded n values) ≡ values
taken-padded n values long = rw (← long) (take-append_seam values (replicate (word_places - length values) 0))

-- the place of a block's word among the words of all blocks, where a block has so many
abbrev pub place_of : ℕ → ℕ → ℕ → ℕ
place_of words block word = block * words + word

-- the words after an operation on one of them: a store writes it
abbrev pub words_after : ℕ → Op → Data → Data
words_after word (op.Store value) words = slice_set words word value
words_after word _ words = words

-- a word that blocks of the shape have: below their number of words, and one of the places for words
abbrev pub IsWord : Extent → ℕ → Type 0
IsWord shape word = (word < shape.words) × (word < word_places)

-- an operation may be of this word: a load or a store of one that blocks of the shape have; that of an Evict is not looked at
abbrev pub HasWord : Extent → ℕ → Op → Type 0
HasWord shape word op.Load = IsWord shape word
HasWord shape word (op.Store value) = IsWord shape word
HasWord shape word op.Evict = ⊤
