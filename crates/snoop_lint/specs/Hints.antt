-- What may be behind a fault, as the field looks.
-- Source: this project's profile.
use Rattle.std.specs.Prelude.{ℕ, ◌-◌, ◌==◌, ◌&&◌, ◌||◌, not, Bool, true, false, List, [], ◌∷◌, codes, drop, length, nat_eq, nat_lt, if◌then◌else◌}
use Rattle.std.specs.{Char.is_digit, List.{ends_with, list_all, list_any, starts_with}, Str.str_eq_ignore_ascii_case}
use Rattle.snoop_lint.specs.declared.form.Form.{Form, TheVariants.{Steps, Rows}}

-- a field is one of these letters alone
abbrev pub is_letter_of : List ℕ → List ℕ → Bool
is_letter_of letters (letter ∷ []) = list_any (λ l. l == letter) letters
is_letter_of letters _ = false

-- a field has no byte
abbrev pub is_empty : List ℕ → Bool
is_empty [] = true
is_empty (byte ∷ bytes) = false

-- a field has this byte
abbrev pub has : ℕ → List ℕ → Bool
has byte field = list_any (λ b. b == byte) field

-- a field begins or ends with a space or a tab
abbrev pub is_padded : List ℕ → Bool
is_padded field = starts_with nat_eq field (codes " ") || starts_with nat_eq field (codes "\t") || ends_with nat_eq field (codes " ") || ends_with nat_eq field (codes "\t")

-- a byte that plain text doesn't have: a control byte other than a tab, or one outside ASCII
abbrev pub is_foreign : ℕ → Bool
is_foreign byte = (nat_lt byte 32 && not (byte == 9)) || nat_lt 126 byte

-- one digit of the base at least, and nothing else
abbrev pub are_digits : ℕ → List ℕ → Bool
are_digits base field = not (is_empty field) && list_all (λ byte. is_digit byte base) field

-- a number, but for its size
abbrev pub is_numeral : List ℕ → Bool
is_numeral field = are_digits 10 field || (starts_with nat_eq field (codes "0x") && are_digits 16 (drop 2 field))

-- a byte between fields that ought to be a comma: a space, a tab or a semicolon
abbrev pub is_gap : ℕ → Bool
is_gap byte = (byte == 32) || (byte == 9) || (byte == 59)

-- the letters of steps
abbrev pub letters : List ℕ
letters = codes "LSEOR"

-- a field begins with a letter of a step and a gap
abbrev pub begins_as_step : List ℕ → Bool
begins_as_step (letter ∷ gap ∷ rest) = is_letter_of letters (letter ∷ []) && is_gap gap
begins_as_step _ = false

-- a gap and a letter of a step, and nothing else
abbrev pub is_next_kind : List ℕ → Bool
is_next_kind (gap ∷ letter ∷ []) = is_gap gap && is_letter_of letters (letter ∷ [])
is_next_kind _ = false

-- a field ends with the kind of the record that follows on the same line
abbrev pub ends_with_kind : List ℕ → Bool
ends_with_kind field = is_next_kind (drop (length field - 2) field)

-- a byte that ends a line
abbrev pub is_line_end : ℕ → Bool
is_line_end byte = (byte == 10) || (byte == 13)

-- a field begins as a line of the report does
abbrev pub is_of_report : List ℕ → Bool
is_of_report field =
    starts_with nat_eq field (codes "loads ") || starts_with nat_eq field (codes "stores ") || starts_with nat_eq field (codes "GetS ")
    || starts_with nat_eq field (codes "from memory ") || starts_with nat_eq field (codes "writebacks ") || starts_with nat_eq field (codes "block ")

-- a field is a word for a load, a store or an eviction
abbrev pub is_word : List ℕ → Bool
is_word field =
    str_eq_ignore_ascii_case field (codes "w") || str_eq_ignore_ascii_case field (codes "write") || str_eq_ignore_ascii_case field (codes "store")
    || str_eq_ignore_ascii_case field (codes "read") || str_eq_ignore_ascii_case field (codes "load") || str_eq_ignore_ascii_case field (codes "evict")

-- the first field of a record of so many fields is a word for a load, a store or an eviction; of three fields an R stands for a read
abbrev pub is_spelt : ℕ → List ℕ → Bool
is_spelt count field = is_word field || (is_letter_of (codes "Rr") field && (count == 3))

-- of two hints the first, unless it is empty
abbrev pub or_else : List ℕ → List ℕ → List ℕ
or_else [] other = other
or_else (byte ∷ bytes) other = byte ∷ bytes

-- a kind of record that stands elsewhere: a heading in a later record, or the kinds of a text of steps among rows
abbrev pub is_elsewhere : Form → List ℕ → Bool
is_elsewhere Steps field = is_letter_of (codes "V") field
is_elsewhere Rows field = is_letter_of (codes "ORV") field

-- where it stands
abbrev pub elsewhere : Form → List ℕ
elsewhere Steps = codes "; a heading stands in record 1 alone"
elsewhere Rows = codes "; it is for snoop steps"

-- why the first of so many fields may be no kind of record; `names`: the record may be a line of names
unfoldable pub kind_hint : Form → Bool → ℕ → List ℕ → List ℕ
kind_hint form names count field =
    if is_spelt count field then codes "; a load is L, a store S, an eviction E"
    else if is_elsewhere form field then elsewhere form
    else if is_letter_of (codes "lseor") field then codes "; kinds are capital letters"
    else if list_any is_line_end field then codes "; a quote is closed on a later line, or not at all"
    else if has 44 field then codes "; within quotes a comma is part of the field"
    else if starts_with nat_eq field (codes "#") then codes "; a text has no comments"
    else if list_any is_foreign field then codes "; this is no plain text"
    else if is_of_report field then codes "; a line of the report begins so"
    else if (count == 1) && list_any is_gap field then codes "; commas stand between the fields"
    else if is_padded field then codes "; blanks are not taken away"
    else if names && not (is_empty field) then codes "; a text has no line of names"
    else if list_any is_gap field then codes "; commas stand between the fields"
    else []

-- what may be wrong with a field, whatever it stands for
unfoldable pub field_hint : List ℕ → List ℕ
field_hint field =
    if list_any is_line_end field then codes "; a quote is closed on a later line, or not at all"
    else if has 44 field then codes "; within quotes a comma is part of the field"
    else if has 58 field then codes "; a reply begins at the colon, and a step has none"
    else if has 35 field then codes "; a text has no comments"
    else if ends_with_kind field then codes "; each record has a line of its own"
    else if has 92 field then codes "; a backslash stands for itself: printf makes a line end of \\n"
    else []

-- the first such hint of some fields
unfoldable pub fields_hint : List (List ℕ) → List ℕ
fields_hint [] = []
fields_hint (field ∷ rest) = or_else (field_hint field) (fields_hint rest)

-- why a field is no number, by its digits
unfoldable pub digits_hint : List ℕ → List ℕ
digits_hint field =
    if is_padded field then codes "; blanks are not taken away"
    else if is_numeral field then codes "; it is above 18446744073709551615"
    else if starts_with nat_eq field (codes "0X") then codes "; the x of 0x is small"
    else if are_digits 16 field then codes "; hexadecimal digits stand after 0x"
    else codes "; a number is decimal digits, or 0x and hexadecimal digits"

-- why a field may be no number
unfoldable pub number_hint : List ℕ → List ℕ
number_hint field = if is_empty field then codes "; it is empty" else or_else (field_hint field) (digits_hint field)
