-- The cells of a line.
-- Source: this project's profile.
use Rattle.std.specs.Prelude.{ℕ, ◌-◌, List, [], ◌∷◌, ◌++◌, codes, length}
use Rattle.snoop_draw.specs.declared.{cells.{Cell.Cell, Link.{Link, TheVariants.{Nothing, FromMemory, ToMemory}}}, marks.Charset.{Charset, TheVariants.Ascii}}
use Rattle.snoop_draw.specs.{declared.marks.Mark.{Mark, TheVariants.{Blank, Gets, Tip, Wire}}, Marks.{mark_text, marks_text}}

-- words to the left of a field, a blank on either side of them, and the wire in what is left of it; where there are none, the wire alone
abbrev pub field_text : Charset → Mark → ℕ → List ℕ → List ℕ
field_text charset wire width [] = marks_text charset wire width ++ marks_text charset wire 2
field_text charset wire width (letter ∷ words) =
    codes " " ++ letter ∷ words ++ codes " " ++ marks_text charset wire (width - length (letter ∷ words))

-- words, and blanks up to this width
abbrev pub left_text : ℕ → List ℕ → List ℕ
left_text width words = words ++ marks_text Ascii Blank (width - length words)

-- words, and blanks before them up to this width
abbrev pub right_text : ℕ → List ℕ → List ℕ
right_text width words = marks_text Ascii Blank (width - length words) ++ words

-- the mark, or the wire where there is none
abbrev pub or_wire : Mark → Mark → Mark
or_wire Blank other = other
or_wire mark other = mark

-- the cell of a core: its mark, its words, its rail, and two characters of what runs on from there
abbrev pub cell_text : Charset → ℕ → Cell → List ℕ → List ℕ
cell_text charset width cell words =
    mark_text charset (or_wire cell.mark cell.wire) ++ field_text charset cell.wire width words ++ mark_text charset (or_wire cell.rail cell.wire) ++ marks_text charset cell.next 2

-- what stands between the bus and memory
abbrev pub link_text : Charset → Link → List ℕ
link_text charset Nothing = marks_text charset Blank 2
link_text charset FromMemory = mark_text charset Gets ++ mark_text charset Wire
link_text charset ToMemory = mark_text charset Wire ++ mark_text charset Tip
