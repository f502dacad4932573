-- What stands above and below the lines of a drawing.
-- Source: this project's profile.
use Rattle.std.specs.{Prelude.{ℕ, ◌+◌, ◌-◌, List, ◌++◌, codes, length}, Fmt.decimal, List.flat_map}
use Rattle.snoop_trace.specs.{Extent.Extent, Output.address_of, declared.protocol.Protocol.Protocol}
use Rattle.snoop_engine.specs.Words.{capitals}
use Rattle.snoop_draw.specs.declared.{cells.{Cell.Cell, Link.TheVariants.Nothing, Style.Style}, marks.{Charset.{Charset, TheVariants.Ascii}, Mark.Mark}}
use Rattle.snoop_draw.specs.declared.marks.Mark.TheVariants as sign
use Rattle.snoop_draw.specs.{Cells.{cell_text, field_text, left_text, link_text, right_text}, Marks.{mark_text, marks_text}, Panels.Panel}

-- nothing stands around the words
abbrev pub bare : Cell
bare = record { mark = sign.Blank; rail = sign.Blank; wire = sign.Blank; next = sign.Blank }

-- the name of a core, where its column is
abbrev pub name_of_core : Style → ℕ → List ℕ
name_of_core style core = cell_text style.charset style.widths.core bare (codes "core " ++ decimal core)

-- the names of the columns of a panel
abbrev pub names_of : Style → Panel → List ℕ
names_of style panel =
    codes " " ++ flat_map (name_of_core style) panel.cores ++ mark_text style.charset sign.Blank ++ field_text style.charset sign.Blank style.widths.bus (codes "bus")
    ++ link_text style.charset Nothing ++ field_text style.charset sign.Blank style.widths.memory (codes "memory")

-- a block, and its first and last byte
abbrev pub title_of : Extent → ℕ → List ℕ
title_of shape block =
    codes " block " ++ decimal block ++ codes " (bytes " ++ decimal (address_of shape block) ++ codes " to " ++ decimal (address_of shape block + shape.block_bytes - 1) ++ codes ")"

-- the title of a panel, as wide as the names below it
abbrev pub title_line : Style → Extent → Panel → List ℕ
title_line style shape panel = left_text (length (names_of style panel)) (title_of shape panel.block)

-- the protocol, at the end of its line
abbrev pub protocol_title : Protocol → List ℕ
protocol_title protocol = codes " " ++ capitals protocol ++ codes "\n"

-- the two lines above the first row: the blocks and the protocol, and the names of the columns
abbrev pub heading_text : Style → Protocol → Extent → List Panel → List ℕ
heading_text style protocol shape panels =
    marks_text Ascii sign.Blank style.widths.number ++ flat_map (title_line style shape) panels ++ protocol_title protocol
    ++ right_text style.widths.number (codes "step") ++ flat_map (names_of style) panels ++ codes " line\n"

-- a mark, and what it says
abbrev pub named_mark : Charset → Mark → List ℕ → List ℕ
named_mark charset mark says = mark_text charset mark ++ codes " " ++ says

-- what a core may do, and what is answered
abbrev pub first_line : Charset → List ℕ
first_line charset =
    named_mark charset sign.MayWrite (codes "may write   ") ++ named_mark charset sign.MayRead (codes "may read   ")
    ++ named_mark charset sign.Done (codes "done at once   ") ++ named_mark charset sign.Refused (codes "refused\n")

-- the way of a request
abbrev pub second_line : Charset → List ℕ
second_line charset =
    named_mark charset sign.Issued (codes "issued   ") ++ named_mark charset sign.AwaitsOrder (codes "waits for its order   ")
    ++ named_mark charset sign.Ordered (codes "ordered   ") ++ named_mark charset sign.Sends (codes "sends   ")
    ++ named_mark charset sign.AwaitsData (codes "waits for data   ") ++ named_mark charset sign.Gets (codes "gets data\n")

-- what the marks say, below the last row
abbrev pub legend_text : Charset → List ℕ
legend_text charset = codes "\n" ++ first_line charset ++ second_line charset
