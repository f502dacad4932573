-- What is said of a faulty record.
-- Source: this project's profile.
use Rattle.std.specs.Option.{option_map_or}
use Rattle.std.specs.Prelude.{ℕ, ◌+◌, ◌-◌, ◌*◌, ◌/◌, ◌==◌, ◌&&◌, not, Bool, List, [], ◌++◌, codes, length, nat_lt, if◌then◌else◌}
use Rattle.snoop_trace.specs.{Extent.Extent, Protocol.protocol_name, declared.{fault.TextFault.TextFault, protocol.Protocol.Protocol}}
use Rattle.snoop_trace.specs.declared.fault.TextFault.TheVariants.{BadKind, BadFields, BadNumber, NoCore, NoBlock, Read, NoMemory, OtherShape, BadVersion}
use Rattle.snoop_lint.specs.{declared.form.Form.{Form, TheVariants.{Steps, Rows}}, Fields.{field, is_number, number_at}}
use Rattle.snoop_lint.specs.declared.kind.Kind.{Kind, TheVariants.Respond}
use Rattle.snoop_lint.specs.{Findings.{Finding, heads}, Hints.{begins_as_step, fields_hint, is_empty, kind_hint, number_hint, or_else}, Kinds.{address_named, bad_place, core_named, field_count, field_name, field_names, kind_of}, Shown.{counted, labelled, shown}}

-- the kinds of record that a text may have
abbrev pub kinds : Form → List ℕ
kinds Steps = codes "L, S, E, O, R"
kinds Rows = codes "L, S, E"

-- record n may be a line of names: it is the first, its second field is no number, and it does not begin as a step with a gap for its comma
abbrev pub may_be_names : ℕ → List (List ℕ) → Bool
may_be_names n fields = (n == 1) && not (is_number fields 1) && not (begins_as_step (field fields 0))

-- of a first field that is no kind of record
unfoldable pub bad_kind : Form → ℕ → List (List ℕ) → List ℕ
bad_kind form n fields =
    shown (field fields 0) ++ codes " is no kind of record (" ++ kinds form ++ codes ")" ++ kind_hint form (may_be_names n fields) (length fields) (field fields 0)

-- of a heading's third field that is no protocol
unfoldable pub bad_protocol : List (List ℕ) → List ℕ
bad_protocol fields = shown (field fields 2) ++ codes " is no protocol (msi, mesi)"

-- a record has so many fields and one more, which is empty
abbrev pub has_comma_more : ℕ → List (List ℕ) → Bool
has_comma_more count fields = (length fields == count + 1) && is_empty (field fields count)

-- of an R with as many fields as a load
abbrev pub read_hint : Kind → ℕ → List ℕ
read_hint Respond count = if count == 3 then codes "; a load is L, a store S, an eviction E" else []
read_hint kind count = []

-- of a record with an empty field more than its kind has, and of such an R
unfoldable pub count_hint : Kind → List (List ℕ) → List ℕ
count_hint kind fields = if has_comma_more (field_count kind) fields then codes "; a comma stands at the end" else read_hint kind (length fields)

-- of a record of this kind with too many fields or too few
unfoldable pub bad_fields_of : Kind → List (List ℕ) → List ℕ
bad_fields_of kind fields =
    field_names kind ++ labelled (codes ", and this record has ") (length fields) ++ or_else (fields_hint fields) (count_hint kind fields)

-- of a record with too many fields or too few; nothing, if it is of no kind
unfoldable pub bad_fields : List (List ℕ) → List ℕ
bad_fields fields = option_map_or (λ kind. bad_fields_of kind fields) (kind_of fields) []

-- of a field that is no number
unfoldable pub no_number : List ℕ → List ℕ → List ℕ
no_number name field = name ++ codes " " ++ shown field ++ codes " is no number" ++ number_hint field

-- of a record that has such a field; nothing, if it is of no kind
unfoldable pub bad_number : List (List ℕ) → List ℕ
bad_number fields = option_map_or (λ kind. no_number (field_name kind (bad_place kind fields)) (field fields (bad_place kind fields))) (kind_of fields) []

-- the fewest cores that have a core
unfoldable pub more_cores : ℕ → List ℕ
more_cores core = if nat_lt core 256 then labelled (codes "; --cores ") (core + 1) ++ codes " has it" else codes "; no machine has more than 256 cores"

-- of a core that is not there
unfoldable pub no_core : Extent → ℕ → List ℕ
no_core shape core =
    labelled (codes "core ") core ++ labelled (codes " is not there: --cores ") shape.cores ++ labelled (codes " has cores 0 to ") (shape.cores - 1) ++ more_cores core

-- the fewest blocks that have a block
unfoldable pub more_blocks : ℕ → List ℕ
more_blocks block =
    if nat_lt block 65536 then labelled (codes "; --blocks ") (block + 1) ++ codes " has room for it"
    else codes "; no machine has more than 65536 blocks: number the blocks anew"

-- the memory of a shape
unfoldable pub memory : Extent → List ℕ
memory shape =
    codes "the memory of " ++ counted shape.blocks (codes "block") ++ codes " of " ++ counted shape.block_bytes (codes "byte")
    ++ labelled (codes " (0 to ") (shape.blocks * shape.block_bytes - 1) ++ codes ")"

-- of an address that lies in no block
unfoldable pub no_block : Extent → ℕ → List ℕ
no_block shape address = labelled (codes "address ") address ++ codes " is outside " ++ memory shape ++ more_blocks (address / shape.block_bytes)

-- of a heading of another version
unfoldable pub bad_version : List (List ℕ) → List ℕ
bad_version fields = labelled (codes "version ") (number_at fields 1) ++ codes " is not known; it has to be 2"

-- a text, and then a protocol and the numbers of a shape, as options
unfoldable pub options : List ℕ → List ℕ → ℕ → ℕ → ℕ → ℕ → List ℕ
options text protocol cores blocks bytes words =
    text ++ protocol ++ labelled (codes " --cores ") cores ++ labelled (codes " --blocks ") blocks
    ++ labelled (codes " --block-bytes ") bytes ++ labelled (codes " --words ") words

-- of a heading for another protocol or another shape
unfoldable pub other_shape : Protocol → Extent → List (List ℕ) → List ℕ
other_shape protocol shape fields =
    options (codes "the heading is for --protocol ") (field fields 2) (number_at fields 3) (number_at fields 4) (number_at fields 5) (number_at fields 6)
    ++ options (codes ", and the options are --protocol ") (protocol_name protocol) shape.cores shape.blocks shape.block_bytes shape.words

-- the name of a fault
unfoldable pub word : TextFault → List ℕ
word (BadKind n) = codes "BadKind"
word (BadFields n) = codes "BadFields"
word (BadNumber n) = codes "BadNumber"
word (NoCore n) = codes "NoCore"
word (NoBlock n) = codes "NoBlock"
word Read = codes "Read"
word NoMemory = codes "NoMemory"
word (OtherShape n) = codes "OtherShape"
word (BadVersion n) = codes "BadVersion"

-- what is said of record n, by its fault
unfoldable pub explained : Form → Protocol → Extent → ℕ → List (List ℕ) → TextFault → List ℕ
explained form protocol shape n fields (BadKind m) = if heads form n fields then bad_protocol fields else bad_kind form n fields
explained form protocol shape n fields (BadFields m) = bad_fields fields
explained form protocol shape n fields (BadNumber m) = bad_number fields
explained form protocol shape n fields (NoCore m) = no_core shape (core_named fields)
explained form protocol shape n fields (NoBlock m) = no_block shape (address_named fields)
explained form protocol shape n fields Read = []
explained form protocol shape n fields NoMemory = []
explained form protocol shape n fields (OtherShape m) = other_shape protocol shape fields
explained form protocol shape n fields (BadVersion m) = bad_version fields

-- the line of a faulty record
unfoldable pub finding_line : Form → Protocol → Extent → ℕ → Finding → List ℕ
finding_line form protocol shape line found =
    labelled (codes "record ") found.number ++ labelled (codes ", line ") line ++ codes ": " ++ word found.fault ++ codes ": "
    ++ explained form protocol shape found.number found.fields found.fault ++ codes "\n"
