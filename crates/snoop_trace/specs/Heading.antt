-- The first record of a text of steps of version 2: the protocol and the shape that the steps are for.
-- Source: this project's profile.
use Rattle.std.specs.Prelude.{ℕ, ◌&&◌, List, [], ◌∷◌, Bool, true, false, nat_eq, ◌==◌, codes, Option, Some, None, Result, Ok, Err, if◌then◌else◌, ◌++◌}
use Rattle.std.specs.{Cmp.Lexicographic.pointwise, Fmt.decimal, Option.ok_or}
use Rattle.snoop_trace.specs.{Extent.Extent, Grammar.{◌>>=◌, number_in}, Protocol.protocol_name, declared.{fault.TextFault.TextFault, record.Heading.Heading}}
use Rattle.snoop_trace.specs.declared.{fault.TextFault.TheVariants.{BadKind, BadFields, BadVersion, OtherShape}, protocol.Protocol.Protocol}
use Rattle.snoop_trace.specs.declared.protocol.Protocol.TheVariants.{Msi, Mesi}

-- a heading begins with the letter V, which is 86
abbrev pub is_heading : List (List ℕ) → Bool
is_heading ((letter ∷ []) ∷ fields) = letter == 86
is_heading _ = false

-- the field after the first, where there is one
abbrev pub version_field : List (List ℕ) → Option (List ℕ)
version_field (kind ∷ version ∷ fields) = Some version
version_field _ = None

-- the five fields after the version, where there are five
abbrev pub five_of : List (List ℕ) → Option (List ℕ × List ℕ × List ℕ × List ℕ × List ℕ)
five_of (kind ∷ version ∷ a ∷ b ∷ c ∷ d ∷ e ∷ []) = Some (a, b, c, d, e)
five_of _ = None

-- the protocol of a name
unfoldable pub protocol_named : List ℕ → Option Protocol
protocol_named name =
    if pointwise nat_eq name (protocol_name Msi) then Some Msi
    else if pointwise nat_eq name (protocol_name Mesi) then Some Mesi
    else None

-- a field of record n that names a protocol
abbrev pub protocol_in : ℕ → List ℕ → Result Protocol TextFault
protocol_in n name = ok_or (protocol_named name) (BadKind n)

-- record n is of version 2
unfoldable pub version_in : ℕ → List (List ℕ) → Result ℕ TextFault
version_in n fields = do
  field ← ok_or (version_field fields) (BadFields n)
  version ← number_in n field
  if version == 2 then Ok version else Err (BadVersion n)

-- `V,2,protocol,cores,blocks,block_bytes,words`
unfoldable pub heading_in : ℕ → List (List ℕ) → Result Heading TextFault
heading_in n fields = do
  version ← version_in n fields
  f ← ok_or (five_of fields) (BadFields n)
  protocol ← protocol_in n f.0
  cores ← number_in n f.1
  blocks ← number_in n f.2
  block_bytes ← number_in n f.3
  words ← number_in n f.4
  Ok (record { protocol = protocol; cores = cores; blocks = blocks; block_bytes = block_bytes; words = words })

-- both are the same protocol
abbrev pub same_protocol : Protocol → Protocol → Bool
same_protocol Msi Msi = true
same_protocol Mesi Mesi = true
same_protocol _ _ = false

-- both say the same
abbrev pub same_heading : Heading → Heading → Bool
same_heading a b = same_protocol a.protocol b.protocol
    && (a.cores == b.cores && (a.blocks == b.blocks && (a.block_bytes == b.block_bytes && a.words == b.words)))

-- record n is the heading that is asked for
unfoldable pub heading_as : Heading → ℕ → List (List ℕ) → Result Heading TextFault
heading_as asked n fields = do
  heading ← heading_in n fields
  if same_heading heading asked then Ok heading else Err (OtherShape n)

-- the heading of the texts for a protocol and a shape
abbrev pub heading_for : Protocol → Extent → Heading
heading_for protocol shape = record { protocol = protocol; cores = shape.cores; blocks = shape.blocks; block_bytes = shape.block_bytes; words = shape.words }

-- a heading as a record
abbrev pub heading_text : Heading → List ℕ
heading_text heading = codes "V,2," ++ protocol_name heading.protocol ++ codes "," ++ decimal heading.cores ++ codes "," ++ decimal heading.blocks
    ++ codes "," ++ decimal heading.block_bytes ++ codes "," ++ decimal heading.words
