-- A cell: what a column shows in a row.
-- Source: this project's profile.
use Rattle.std.specs.Prelude.{ℕ, ◌+◌, ◌-◌, ◌&&◌, Bool, true, List, [], ◌∷◌, ◌++◌, codes, Option, Some, None, not, if◌then◌else◌, is_none, nat_eq}
use Rattle.std.specs.{Cmp.Lexicographic.pointwise, List.flat_map}
use Rattle.snoop_model.specs.Pictures.Situation.{Situation}
use Rattle.snoop_svg.specs.declared.{bands.Band.{Band, TheVariants.Bare}, columns.Column.Column, looks.Rail.{Rail, TheVariants.{Free, ToOrder, ToData}}}
use Rattle.snoop_svg.specs.{Bands.band_text, Elements.{line, text}, Looks.{Look, look_at}}

-- the x of a column's rail
abbrev pub rail_of : Column → ℕ
rail_of column = column.end - 8

-- the band that stands above, if any
abbrev pub band_above : Option Look → Band
band_above None = Bare
band_above (Some above) = above.band

-- where a rail begins: in a first row below its upper part
abbrev pub rail_top : ℕ → Bool → ℕ
rail_top y is_first = if is_first then y + 36 else y

-- the rail of a column, in a row that begins at y
abbrev pub rail_text : ℕ → ℕ → Bool → Rail → List ℕ
rail_text x y is_first Free = []
rail_text x y is_first ToOrder = line x (rail_top y is_first) x (y + 54) (codes "q")
rail_text x y is_first ToData = line x (rail_top y is_first) x (y + 54) (codes "d")

-- the words are new: they differ from those above, or none stand above
abbrev pub is_new : Option Look → List ℕ → Bool
is_new None words = true
is_new (Some above) words = not (pointwise nat_eq above.words words)

-- nothing is said where there are no words, nor of a core that still is in I
abbrev pub is_silent : Bool → List ℕ → Bool
is_silent is_fresh [] = true
is_silent is_fresh (letter ∷ words) = not is_fresh && pointwise nat_eq (letter ∷ words) (codes "I")

-- the class of words: bold where they are new
abbrev pub class_of_words : Bool → List ℕ
class_of_words is_fresh = if is_fresh then codes "s" else codes "k"

-- the words of a column
abbrev pub label_text : ℕ → ℕ → Bool → List ℕ → List ℕ
label_text x y is_fresh words = if is_silent is_fresh words then [] else text (x + 8) (y + 49) words (class_of_words is_fresh)

-- a cell: the band above, whether the row is a first one, and whether the words are new
abbrev pub one_cell : ℕ → Column → Bool → Band → Bool → Look → List ℕ
one_cell y column is_first old is_fresh look =
    band_text column.x y (column.end - column.x) old look.band ++ rail_text (rail_of column) y is_first look.rail ++ label_text column.x y is_fresh look.words

-- a cell, by what stands above it
abbrev pub cell_text : ℕ → Column → Option Look → Look → List ℕ
cell_text y column above look = one_cell y column (is_none above) (band_above above) (is_new above look.words) look

-- the cells of a first row
abbrev pub first_cells : ℕ → List Column → Situation → List ℕ
first_cells y columns s = flat_map (λ column. cell_text y column None (look_at s column.subject)) columns

-- the cells of a row, below one that shows another situation
abbrev pub next_cells : ℕ → List Column → Situation → Situation → List ℕ
next_cells y columns above s = flat_map (λ column. cell_text y column (Some (look_at above column.subject)) (look_at s column.subject)) columns
