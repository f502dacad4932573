-- The kinds of record, and what their fields are.
-- Source: the grammar of texts.
use Rattle.std.specs.Prelude.{ℕ, ◌==◌, Bool, true, false, List, Option, Some, None, codes, not, if◌then◌else◌}
use Rattle.snoop_lint.specs.{declared.kind.Kind.{Kind, TheVariants.{Load, Store, Evict, Order, Respond, Heading}}, Fields.{field, is_number, number_at}, Hints.is_letter_of}

-- the kind of a record, by its letter
abbrev pub kind_of : List (List ℕ) → Option Kind
kind_of fields =
    if is_letter_of (codes "L") (field fields 0) then Some Load
    else if is_letter_of (codes "S") (field fields 0) then Some Store
    else if is_letter_of (codes "E") (field fields 0) then Some Evict
    else if is_letter_of (codes "O") (field fields 0) then Some Order
    else if is_letter_of (codes "R") (field fields 0) then Some Respond
    else if is_letter_of (codes "V") (field fields 0) then Some Heading
    else None

-- a kind by which a core asks for something
abbrev pub asks : Kind → Bool
asks Load = true
asks Store = true
asks Evict = true
asks kind = false

-- a kind by which the bus does something
abbrev pub drives : Kind → Bool
drives Order = true
drives Respond = true
drives kind = false

-- the core that a record of such a kind names; 0 where it names none
abbrev pub core_by_kind : Option Kind → List (List ℕ) → ℕ
core_by_kind (Some Load) fields = number_at fields 1
core_by_kind (Some Store) fields = number_at fields 1
core_by_kind (Some Evict) fields = number_at fields 1
core_by_kind (Some Order) fields = number_at fields 1
core_by_kind kind fields = 0

-- the core that a record names
unfoldable pub core_named : List (List ℕ) → ℕ
core_named fields = core_by_kind (kind_of fields) fields

-- the address that a record of such a kind names; 0 where it names none
abbrev pub address_by_kind : Option Kind → List (List ℕ) → ℕ
address_by_kind (Some Load) fields = number_at fields 2
address_by_kind (Some Store) fields = number_at fields 2
address_by_kind (Some Evict) fields = number_at fields 2
address_by_kind (Some Respond) fields = number_at fields 1
address_by_kind kind fields = 0

-- the address that a record names
unfoldable pub address_named : List (List ℕ) → ℕ
address_named fields = address_by_kind (kind_of fields) fields

-- how many fields it has
abbrev pub field_count : Kind → ℕ
field_count Load = 3
field_count Store = 4
field_count Evict = 3
field_count Order = 2
field_count Respond = 2
field_count Heading = 7

-- the same in words, and the fields
unfoldable pub field_names : Kind → List ℕ
field_names Load = codes "L has 3 fields (L,core,address)"
field_names Store = codes "S has 4 fields (S,core,address,value)"
field_names Evict = codes "E has 3 fields (E,core,address)"
field_names Order = codes "O has 2 fields (O,core)"
field_names Respond = codes "R has 2 fields (R,address)"
field_names Heading = codes "V has 7 fields (V,2,protocol,cores,blocks,block_bytes,words)"

-- the place of the first field of a heading that ought to be a number and is none
unfoldable pub heading_place : List (List ℕ) → ℕ
heading_place fields =
    if not (is_number fields 1) then 1
    else if not (is_number fields 3) then 3
    else if not (is_number fields 4) then 4
    else if not (is_number fields 5) then 5
    else 6

-- the same of a step or a row
unfoldable pub step_place : List (List ℕ) → ℕ
step_place fields = if not (is_number fields 1) then 1 else if not (is_number fields 2) then 2 else 3

-- the same of any record
abbrev pub bad_place : Kind → List (List ℕ) → ℕ
bad_place Heading fields = heading_place fields
bad_place kind fields = step_place fields

-- what a field of a heading is called, by its place
unfoldable pub heading_name : ℕ → List ℕ
heading_name i =
    if i == 1 then codes "version"
    else if i == 3 then codes "cores"
    else if i == 4 then codes "blocks"
    else if i == 5 then codes "block_bytes"
    else codes "words"

-- what a field of a load, a store, an eviction or an Order is called
unfoldable pub step_name : ℕ → List ℕ
step_name i =
    if i == 1 then codes "core"
    else if i == 2 then codes "address"
    else codes "value"

-- what a field of any record is called
abbrev pub field_name : Kind → ℕ → List ℕ
field_name Heading i = heading_name i
field_name Respond i = codes "address"
field_name kind i = step_name i
