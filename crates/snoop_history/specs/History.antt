-- What a list of items says: its operations, flat memory, and when it is legal.
-- Source: the data value invariant of "A Primer on Memory Consistency and Cache Coherence", 2nd edition, put as flat memory; numbers and items are this project's profile.
use Rattle.std.specs.Prelude.{◌≡◌, ℕ, Bool, not, ◌&&◌, ◌==◌, List, [], ◌∷◌, map, length, filter, filter_map, take, Option, Some, None, slice_get, IfSome, IsTrue, if◌then◌else◌}
use Rattle.std.specs.{List.range_with_len, Option.{option_map_or, ForSome}}
use Rattle.snoop_trace.specs.Words.{Data, word_places}
use Rattle.snoop_history.specs.declared.items.{Did.Did, Item.Item}
use Rattle.snoop_history.specs.declared.items.Item.TheVariants as item

-- the operation that an item performed, if any
abbrev pub operation_of : Item → Option Did
operation_of (item.Did did) = Some did
operation_of (item.Sent sent) = None
operation_of (item.Came came did) = did

-- the operations of a list, in order
abbrev pub operations : List Item → List Did
operations items = filter_map operation_of items

-- the operations of one core, in order
abbrev pub answers_of : List Item → ℕ → List Did
answers_of items core = filter (λ did. did.core == core) (operations items)

-- how many operations of the core the list has, and so the number of its next one
abbrev pub next_number : List Item → ℕ → ℕ
next_number items core = length (answers_of items core)

-- the operation stores to the word of the block
abbrev pub is_store_to : ℕ → ℕ → Did → Bool
is_store_to block word did = not did.load && (did.block == block && did.word == word)

-- the last element of a list, or the one given where there is none
abbrev pub last_or : {A : Type 0} → A → List A → A
last_or value [] = value
last_or value (x ∷ xs) = last_or x xs

-- flat memory: the value of the last store to the word of the block, 0 if there is none
abbrev pub flat : List Item → ℕ → ℕ → ℕ
flat items block word = last_or 0 (map (λ did. did.value) (filter (is_store_to block word) (operations items)))

-- the words of the block in flat memory
abbrev pub flat_words : List Item → ℕ → Data
flat_words items block = map (flat items block) (range_with_len 0 word_places)

-- a word's value in flat memory after an item, from its value before
abbrev pub stores : Item → ℕ → ℕ → ℕ → ℕ
stores entry block word before = option_map_or (λ did. if is_store_to block word did then did.value else before) (operation_of entry) before

-- the core's last operation, if any
abbrev pub last_of : List Item → ℕ → Option Did
last_of items core = last_or None (map Some (answers_of items core))

-- an operation may come next after these items: it has its core's next number, and a load has flat memory's value
pub record IsNext (past : List Item) (did : Did) : Type 0 where
  pub numbered : did.number ≡ next_number past did.core
  pub loaded : IsTrue did.load → did.value ≡ flat past did.block did.word

-- each operation may come next after the items before it
abbrev pub Legal : List Item → Type 0
Legal items = (k : ℕ) (entry : Item) → slice_get items k ≡ Some entry → IfSome (operation_of entry) (IsNext (take k items))

-- the operation of an item carries its core's next number
abbrev pub IsNumbered : List Item → Item → Type 0
IsNumbered past entry = ForSome (operation_of entry) (λ did. did.number ≡ next_number past did.core)
