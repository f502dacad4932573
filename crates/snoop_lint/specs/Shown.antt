-- How a field of a text is shown.
-- Source: this project's profile.
use Rattle.std.specs.{Prelude.{ℕ, ◌-◌, ◌/◌, ◌%◌, ◌==◌, ◌&&◌, List, [], ◌∷◌, ◌++◌, codes, length, min, not, take, nat_lt, if◌then◌else◌}, Char.digit_char}
use Rattle.std.specs.{Fmt.decimal, List.{flat_map, prefix_len}}
use Rattle.snoop_lint.specs.Hints.{is_line_end}

-- a byte as it is shown: printable ASCII as itself, a backslash twice, any other in hexadecimal
abbrev pub shown_byte : ℕ → List ℕ
shown_byte byte =
    if byte == 92 then 92 ∷ 92 ∷ []
    else if nat_lt 31 byte && nat_lt byte 127 then byte ∷ []
    else 92 ∷ 120 ∷ digit_char (byte / 16) ∷ digit_char (byte % 16) ∷ []

-- a text, and then a number
abbrev pub labelled : List ℕ → ℕ → List ℕ
labelled text number = text ++ decimal number

-- a number and what it counts, with an s unless it is 1
unfoldable pub counted : ℕ → List ℕ → List ℕ
counted count thing = decimal count ++ codes " " ++ thing ++ (if count == 1 then [] else codes "s")

-- so many bytes that are not shown, if there are any
unfoldable pub not_shown : ℕ → List ℕ
not_shown count = if nat_lt 0 count then codes " and " ++ counted count (codes "more byte") else []

-- what is shown of a field: its first 40 bytes at most, and none from its first line end on
unfoldable pub front : List ℕ → List ℕ
front field = take (min 40 (prefix_len (λ byte. not (is_line_end byte)) field)) field

-- a field between quotes
unfoldable pub shown : List ℕ → List ℕ
shown field = codes "'" ++ flat_map shown_byte (front field) ++ codes "'" ++ not_shown (length field - length (front field))
