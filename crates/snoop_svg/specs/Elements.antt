-- The elements of a drawing, each one line. All numbers are pixels.
-- Source: the elements are those of SVG 1.1; their form is this project's profile.
use Rattle.std.specs.{Prelude.{ℕ, ◌+◌, ◌-◌, List, ◌++◌, codes}, Fmt.decimal}

-- an attribute with a number
abbrev pub number_attribute : List ℕ → ℕ → List ℕ
number_attribute name value = codes " " ++ name ++ codes "=\"" ++ decimal value ++ codes "\""

-- the beginning of an element of a class
abbrev pub opened : List ℕ → List ℕ → List ℕ
opened name class = codes "<" ++ name ++ codes " class=\"" ++ class ++ codes "\""

-- the beginning of a text
abbrev pub text_opened : ℕ → ℕ → List ℕ → List ℕ
text_opened x y class = opened (codes "text") class ++ number_attribute (codes "x") x ++ number_attribute (codes "y") y ++ codes ">"

-- the end of a text
abbrev pub text_closed : List ℕ
text_closed = codes "</text>\n"

-- words from this point on
abbrev pub text : ℕ → ℕ → List ℕ → List ℕ → List ℕ
text x y words class = text_opened x y class ++ words ++ text_closed

-- a number up to this point
abbrev pub number : ℕ → ℕ → ℕ → List ℕ
number x y value =
    opened (codes "text") (codes "t") ++ number_attribute (codes "x") x ++ number_attribute (codes "y") y ++ codes " text-anchor=\"end\">" ++ decimal value ++ text_closed

-- a box with this corner, so wide and so high
abbrev pub box : ℕ → ℕ → ℕ → ℕ → List ℕ → List ℕ
box x y wide high class =
    opened (codes "rect") class ++ number_attribute (codes "x") x ++ number_attribute (codes "y") y ++ number_attribute (codes "width") wide ++ number_attribute (codes "height") high ++ codes "/>\n"

-- two numbers, a blank between them
abbrev pub point : ℕ → ℕ → List ℕ
point x y = decimal x ++ codes " " ++ decimal y

-- the end of a view, and its size
abbrev pub size : ℕ → ℕ → List ℕ
size width height = point width height ++ codes "\"" ++ number_attribute (codes "width") width ++ number_attribute (codes "height") height

-- the beginning of a path at this point
abbrev pub path_opened : ℕ → ℕ → List ℕ → List ℕ
path_opened x y class = opened (codes "path") class ++ codes " d=\"M" ++ point x y

-- a line from one point to another
abbrev pub line : ℕ → ℕ → ℕ → ℕ → List ℕ → List ℕ
line x y to_x to_y class = path_opened x y class ++ codes "L" ++ point to_x to_y ++ codes "\"/>\n"

-- a dot
abbrev pub dot : ℕ → ℕ → List ℕ → List ℕ
dot x y class = opened (codes "circle") class ++ number_attribute (codes "cx") x ++ number_attribute (codes "cy") y ++ codes " r=\"4\"/>\n"

-- an arrow from a point to where its head ends, at the same height
abbrev pub arrow : ℕ → ℕ → ℕ → ℕ → List ℕ → List ℕ → List ℕ
arrow x neck to y head class = path_opened x y class ++ (codes "H" ++ decimal neck) ++ (codes "M" ++ point to y) ++ head

-- an arrow to the right
abbrev pub right_arrow : ℕ → ℕ → ℕ → List ℕ → List ℕ
right_arrow x to y class = arrow x (to - 6) to y (codes "l-7 -4v8z\"/>\n") class

-- an arrow to the left
abbrev pub left_arrow : ℕ → ℕ → ℕ → List ℕ → List ℕ
left_arrow x to y class = arrow x (to + 6) to y (codes "l7 -4v8z\"/>\n") class

-- a cross, whose middle is here
abbrev pub cross : ℕ → ℕ → List ℕ
cross x y = path_opened (x - 4) (y - 4) (codes "x") ++ codes "l8 8m0 -8l-8 8\"/>\n"

-- an operation: a square, and its words begun
abbrev pub operation_opened : ℕ → ℕ → List ℕ → List ℕ
operation_opened x y class = box (x + 8) (y + 5) 7 7 class ++ text_opened (x + 20) (y + 13) (codes "o")
