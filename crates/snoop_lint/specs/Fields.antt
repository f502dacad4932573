-- The fields of a record, by their places.
-- Source: this project's profile.
use Rattle.std.specs.Prelude.{ℕ, Bool, List, [], is_some, unwrap_or}
use Rattle.csv.specs.Records.{field_at}
use Rattle.snoop_trace.specs.Grammar.{number}

-- a field by its place, counted from 0; empty where there is none
abbrev pub field : List (List ℕ) → ℕ → List ℕ
field fields i = unwrap_or (field_at fields i) []

-- a field is a number
abbrev pub is_number : List (List ℕ) → ℕ → Bool
is_number fields i = is_some (number (field fields i))

-- the number that a field is; 0 where it is none
abbrev pub number_at : List (List ℕ) → ℕ → ℕ
number_at fields i = unwrap_or (number (field fields i)) 0
