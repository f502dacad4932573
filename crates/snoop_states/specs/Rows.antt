-- A row of a table: a number, a cell in each column, and what is written of the step.
-- Source: this project's profile.
use Rattle.std.specs.{Prelude.{ℕ, ◌-◌, max, List, ◌++◌, codes, length, replicate, if◌then◌else◌, nat_eq}, Cmp.Lexicographic.pointwise, Fmt.decimal}
use Rattle.std.specs.List.{flat_map}
use Rattle.snoop_states.specs.{declared.{column.Column.Column, widths.Widths.Widths}, Columns.{column_name, width_of}}

-- so many blanks
abbrev pub blanks : ℕ → List ℕ
blanks n = replicate n 32

-- a text, filled up with blanks to the width, and with one where it is as long
abbrev pub padded_text : ℕ → List ℕ → List ℕ
padded_text width text = text ++ blanks (max 1 (width - length text))

-- a text to the right of the width, and two blanks
abbrev pub to_the_right : ℕ → List ℕ → List ℕ
to_the_right width text = blanks (width - length text) ++ text ++ codes "  "

-- a cell below another: a dot where it is the same
abbrev pub below : List ℕ → List ℕ → List ℕ
below above cell = if pointwise nat_eq above cell then codes "." else cell

-- the number of a row and its cells, by what stands in each column above it and in it
abbrev pub cells_text : Widths → List Column → (Column → List ℕ) → (Column → List ℕ) → ℕ → List ℕ
cells_text widths columns above cell number =
    to_the_right widths.number (decimal number) ++ flat_map (λ column. padded_text (width_of widths column) (below (above column) (cell column))) columns

-- the names of the columns
abbrev pub names_text : Widths → List Column → List ℕ
names_text widths columns = to_the_right widths.number (codes "step") ++ flat_map (λ column. padded_text (width_of widths column) (column_name column)) columns ++ codes "line\n"
