-- How one record of a text is read: its numbers, its fields, and the first fault.
-- Source: this project's profile.
use Rattle.std.specs.Prelude.{ℕ, ◌<◌, ◌/◌, ◌%◌, ◌^◌, ◌&&◌, List, [], ◌∷◌, drop, nat_lt, nat_eq, ◌==◌, codes, Option, Some, None, Result, Ok, Err, if◌then◌else◌}
use Rattle.std.specs.{Char.is_digit, List.{list_all, starts_with}, Option.ok_or, Str.Parse.digits_value}
use Rattle.snoop_trace.specs.{declared.{fault.TextFault.TextFault, step.{Op.{Op, TheVariants.{Load, Store, Evict}}, Row.Row, Step.Step}}, Extent.Extent}
use Rattle.snoop_trace.specs.declared.fault.TextFault.TheVariants.{BadKind, BadFields, BadNumber, NoCore, NoBlock, Read, NoMemory, OtherShape, BadVersion}
use Rattle.snoop_trace.specs.declared.step.Step.TheVariants.{Ask, Order, Respond}

-- one or more digits of the base, of a value up to 2^64 - 1
abbrev pub numeral : ℕ → List ℕ → Option ℕ
numeral base [] = None
numeral base (d ∷ ds) =
    if list_all (λ c. is_digit c base) (d ∷ ds) && nat_lt (digits_value base (d ∷ ds)) (2 ^ 64)
    then Some (digits_value base (d ∷ ds)) else None

-- a number: decimal digits, or `0x` and hexadecimal digits
unfoldable pub number : List ℕ → Option ℕ
number bytes = if starts_with nat_eq bytes (codes "0x") then numeral 16 (drop 2 bytes) else numeral 10 bytes

-- a fault of a record
abbrev pub NamesRecord : TextFault → Type 0
NamesRecord (BadKind n) = Unit {0}
NamesRecord (BadFields n) = Unit {0}
NamesRecord (BadNumber n) = Unit {0}
NamesRecord (NoCore n) = Unit {0}
NamesRecord (NoBlock n) = Unit {0}
NamesRecord Read = ⊥
NamesRecord NoMemory = ⊥
NamesRecord (OtherShape n) = Unit {0}
NamesRecord (BadVersion n) = Unit {0}

infixl 10 ◌>>=◌
-- the first fault ends a reading
abbrev pub ◌>>=◌ : {A B : Type 0} → Result A TextFault → (A → Result B TextFault) → Result B TextFault
(Ok x) >>= f = f x
(Err e) >>= f = Err e

-- a field of record n that is a number
abbrev pub number_in : ℕ → List ℕ → Result ℕ TextFault
number_in n field = ok_or (number field) (BadNumber n)

-- a number that names a core
abbrev pub core_in : Extent → ℕ → ℕ → Result ℕ TextFault
core_in shape n core = if nat_lt core shape.cores then Ok core else Err (NoCore n)

-- the block of an address, where there is one
abbrev pub block_at : Extent → ℕ → Option ℕ
block_at shape address = if nat_lt (address / shape.block_bytes) shape.blocks then Some (address / shape.block_bytes) else None

-- the word of its block that an address lies in
abbrev pub word_in_block : Extent → ℕ → ℕ
word_in_block shape address = (address % shape.block_bytes) / (shape.block_bytes / shape.words)

-- the word that an operation at an address is of; an eviction is of the whole block
abbrev pub word_asked : Extent → ℕ → Op → ℕ
word_asked shape address Load = word_in_block shape address
word_asked shape address (Store value) = word_in_block shape address
word_asked shape address Evict = 0

-- an address that lies in a block
abbrev pub block_in : Extent → ℕ → ℕ → Result ℕ TextFault
block_in shape n address = ok_or (block_at shape address) (NoBlock n)

-- the field after the first, where there is one alone
abbrev pub one_of : List (List ℕ) → Option (List ℕ)
one_of (kind ∷ a ∷ []) = Some a
one_of _ = None

-- the two fields after the first, where there are two
abbrev pub two_of : List (List ℕ) → Option (List ℕ × List ℕ)
two_of (kind ∷ a ∷ b ∷ []) = Some (a, b)
two_of _ = None

-- the three fields after the first, where there are three
abbrev pub three_of : List (List ℕ) → Option (List ℕ × List ℕ × List ℕ)
three_of (kind ∷ a ∷ b ∷ c ∷ []) = Some (a, b, c)
three_of _ = None

-- the first field, where it is one letter
abbrev pub letter_of : List (List ℕ) → Option ℕ
letter_of ((letter ∷ []) ∷ fields) = Some letter
letter_of _ = None

-- `L,core,address` and `E,core,address`, by their operation
unfoldable pub without_value : Extent → ℕ → Op → List (List ℕ) → Result Row TextFault
without_value shape n op fields = do
  f ← ok_or (two_of fields) (BadFields n)
  core ← number_in n f.0
  address ← number_in n f.1
  core ← core_in shape n core
  Ok (record { core = core; op = op; address = address })

-- `S,core,address,value`
unfoldable pub store : Extent → ℕ → List (List ℕ) → Result Row TextFault
store shape n fields = do
  f ← ok_or (three_of fields) (BadFields n)
  core ← number_in n f.0
  address ← number_in n f.1
  value ← number_in n f.2
  core ← core_in shape n core
  Ok (record { core = core; op = Store value; address = address })

-- `O,core`
unfoldable pub order : Extent → ℕ → List (List ℕ) → Result Step TextFault
order shape n fields = do
  f ← ok_or (one_of fields) (BadFields n)
  core ← number_in n f
  core ← core_in shape n core
  Ok (Order core)

-- `R,address`
unfoldable pub respond : Extent → ℕ → List (List ℕ) → Result Step TextFault
respond shape n fields = do
  f ← ok_or (one_of fields) (BadFields n)
  address ← number_in n f
  block ← block_in shape n address
  Ok (Respond block)

-- what a core asks for in record n, by its letter: L is 76, S 83 and E 69
unfoldable pub row_by_letter : Extent → ℕ → ℕ → List (List ℕ) → Result Row TextFault
row_by_letter shape n letter fields =
    if letter == 76 then without_value shape n Load fields
    else if letter == 83 then store shape n fields
    else if letter == 69 then without_value shape n Evict fields
    else Err (BadKind n)

-- the row of record n: its address lies in a block
unfoldable pub row_in : Extent → ℕ → List (List ℕ) → Result Row TextFault
row_in shape n fields = do
  letter ← ok_or (letter_of fields) (BadKind n)
  row ← row_by_letter shape n letter fields
  block ← block_in shape n row.address
  Ok row

-- the asking step of record n: the core asks for the block and the word of the address
unfoldable pub ask : Extent → ℕ → ℕ → List (List ℕ) → Result Step TextFault
ask shape n letter fields = do
  row ← row_by_letter shape n letter fields
  block ← block_in shape n row.address
  Ok (Ask row.core block (word_asked shape row.address row.op) row.op)

-- the step of record n, by its letter: O is 79 and R 82
unfoldable pub step_in : Extent → ℕ → List (List ℕ) → Result Step TextFault
step_in shape n fields = do
  letter ← ok_or (letter_of fields) (BadKind n)
  if letter == 79 then order shape n fields
      else if letter == 82 then respond shape n fields
      else ask shape n letter fields

-- a row of the shape: its core is there, and its address lies in a block
abbrev pub IsRowWithin : Extent → Row → Type 0
IsRowWithin shape row = (row.core < shape.cores) × (row.address / shape.block_bytes < shape.blocks)

-- a step of the shape: its core, its block and its word are there
abbrev pub IsStepWithin : Extent → Step → Type 0
IsStepWithin shape (Ask core block word op) = (core < shape.cores) × (block < shape.blocks) × (word < shape.words)
IsStepWithin shape (Order core) = core < shape.cores
IsStepWithin shape (Respond block) = block < shape.blocks
