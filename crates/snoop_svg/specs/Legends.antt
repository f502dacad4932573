-- What the marks of a drawing mean.
-- Source: this project's profile.
use Rattle.std.specs.Prelude.{ℕ, ◌+◌, List, ◌++◌, codes}
use Rattle.snoop_trace.specs.declared.protocol.Protocol.{Protocol, TheVariants.{Msi, Mesi}}
use Rattle.snoop_svg.specs.{declared.bands.Band.Band, Bands.part, Elements.{box, cross, dot, line, right_arrow, text}}
use Rattle.snoop_svg.specs.declared.bands.Band.TheVariants as band

-- a band, and what it means
abbrev pub key : ℕ → ℕ → Band → List ℕ → List ℕ
key x y shown words = part x y 14 14 shown ++ text (x + 20) (y + 11) words (codes "t")

-- the bus and memory
abbrev pub further_keys : ℕ → ℕ → List ℕ
further_keys x y = key x y band.Read (codes "may read") ++ key (x + 96) y band.Open (codes "open transaction") ++ key (x + 256) y band.Sends (codes "memory sends, else (value)")

-- the bands of a protocol
abbrev pub keys : Protocol → ℕ → List ℕ
keys Msi y = key 12 y band.Write (codes "may write") ++ further_keys 116 y
keys Mesi y = key 12 y band.Write (codes "may write") ++ key 116 y band.Clean (codes "may write, unchanged") ++ further_keys 308 y

-- the squares
abbrev pub square_marks : ℕ → List ℕ
square_marks z = box 12 (z + 3) 7 7 (codes "ask") ++ text 24 (z + 11) (codes "asked") (codes "t") ++ box 80 (z + 3) 7 7 (codes "done") ++ text 92 (z + 11) (codes "performed") (codes "t")

-- a request that was issued
abbrev pub issued_mark : ℕ → List ℕ
issued_mark z = line 184 (z + 3) 184 (z + 17) (codes "q") ++ dot 184 (z + 3) (codes "i") ++ text 194 (z + 11) (codes "issued (#2: second in the queue)") (codes "t")

-- one that was ordered
abbrev pub ordered_mark : ℕ → List ℕ
ordered_mark z = line 470 (z + 3) 470 (z + 17) (codes "d") ++ dot 470 (z + 3) (codes "p") ++ text 480 (z + 11) (codes "ordered") (codes "t")

-- a message, and a refusal
abbrev pub other_marks : ℕ → List ℕ
other_marks z = right_arrow 556 580 (z + 7) (codes "g") ++ text 588 (z + 11) (codes "message") (codes "t") ++ cross 664 (z + 7) ++ text 674 (z + 11) (codes "refused") (codes "t")

-- the legend, from y on
abbrev pub legend_text : Protocol → ℕ → List ℕ
legend_text protocol y = keys protocol y ++ square_marks (y + 26) ++ issued_mark (y + 26) ++ ordered_mark (y + 26) ++ other_marks (y + 26)
