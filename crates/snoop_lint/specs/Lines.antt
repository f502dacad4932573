-- On which lines of a text its records begin.
-- Source: this project's profile, over the state machine of the crate csv.
use Rattle.std.specs.Prelude.{ℕ, ◌+◌, ◌-◌, ◌==◌, ◌&&◌, ◌||◌, not, Bool, true, false, List, [], ◌∷◌, ◌++◌, Option, Some, None, slice_get, slice_index_or, if◌then◌else◌}
use Rattle.csv.specs.{Machine.step, Reading.{default_config, strip_bom}, declared.parser.State.State}
use Rattle.csv.specs.declared.parser.State.TheVariants as st

-- a line ends at a line feed (10), and at a carriage return (13) that no line feed follows
abbrev pub ends_line : ℕ → Option ℕ → Bool
ends_line byte None = (byte == 10) || (byte == 13)
ends_line byte (Some next) = (byte == 10) || ((byte == 13) && not (next == 10))

-- no record is begun
abbrev pub is_between : State → Bool
is_between st.StartRecord = true
is_between st.AfterCr = true
is_between _ = false

-- a record begins at this byte
abbrev pub begins_record : State → ℕ → Bool
begins_record s byte = is_between s && not (byte == 10) && not (byte == 13)

-- the lines on which the records begin that are left of a text, which stands on this line
unfoldable pub lines_from : State → ℕ → List ℕ → List ℕ
lines_from s line [] = []
lines_from s line (byte ∷ rest) =
    (if begins_record s byte then line ∷ [] else []) ++ lines_from (step default_config s byte).0 (if ends_line byte (slice_get rest 0) then line + 1 else line) rest

-- the lines on which the records of a text begin
abbrev pub record_lines : List ℕ → List ℕ
record_lines bytes = lines_from st.StartRecord 1 (strip_bom bytes)

-- the line on which record n begins, where the first is record 1; 0 where there are fewer records
abbrev pub line_of : List ℕ → ℕ → ℕ
line_of lines n = slice_index_or lines (n - 1) 0
