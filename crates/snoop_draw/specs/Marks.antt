-- The characters of a drawing.
-- Source: this project's profile.
use Rattle.std.specs.{Prelude.{ℕ, List, [], ◌∷◌, codes}, List.{flat_map, range_with_len}}
use Rattle.snoop_draw.specs.declared.marks.{Charset.{Charset, TheVariants.{Unicode, Ascii}}, Mark.Mark}
use Rattle.snoop_draw.specs.declared.marks.Mark.TheVariants as sign

-- a mark in Unicode, as the bytes of UTF-8
abbrev pub unicode_text : Mark → List ℕ
unicode_text sign.Blank = codes " "
unicode_text sign.MayWrite = 226 ∷ 150 ∷ 147 ∷ []
unicode_text sign.MayRead = 226 ∷ 150 ∷ 145 ∷ []
unicode_text sign.Done = 226 ∷ 150 ∷ 160 ∷ []
unicode_text sign.Refused = 226 ∷ 156 ∷ 151 ∷ []
unicode_text sign.Issued = 226 ∷ 151 ∷ 139 ∷ []
unicode_text sign.AwaitsOrder = 226 ∷ 148 ∷ 138 ∷ []
unicode_text sign.Ordered = 226 ∷ 151 ∷ 143 ∷ []
unicode_text sign.Sends = 226 ∷ 151 ∷ 134 ∷ []
unicode_text sign.AwaitsData = 226 ∷ 148 ∷ 130 ∷ []
unicode_text sign.Gets = 226 ∷ 151 ∷ 128 ∷ []
unicode_text sign.Tip = 226 ∷ 150 ∷ 182 ∷ []
unicode_text sign.Wire = 226 ∷ 148 ∷ 128 ∷ []
unicode_text sign.Broken = 226 ∷ 149 ∷ 140 ∷ []

-- a mark in ASCII
abbrev pub ascii_text : Mark → List ℕ
ascii_text sign.Blank = codes " "
ascii_text sign.MayWrite = codes "#"
ascii_text sign.MayRead = codes "+"
ascii_text sign.Done = codes "*"
ascii_text sign.Refused = codes "x"
ascii_text sign.Issued = codes "o"
ascii_text sign.AwaitsOrder = codes ":"
ascii_text sign.Ordered = codes "@"
ascii_text sign.Sends = codes "%"
ascii_text sign.AwaitsData = codes "|"
ascii_text sign.Gets = codes "<"
ascii_text sign.Tip = codes ">"
ascii_text sign.Wire = codes "-"
ascii_text sign.Broken = codes "~"

-- a mark in the characters that are asked for
abbrev pub mark_text : Charset → Mark → List ℕ
mark_text Unicode mark = unicode_text mark
mark_text Ascii mark = ascii_text mark

-- the same mark so many times
abbrev pub marks_text : Charset → Mark → ℕ → List ℕ
marks_text charset mark count = flat_map (λ _. mark_text charset mark) (range_with_len 0 count)
