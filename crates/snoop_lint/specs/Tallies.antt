-- What is counted of the records of a text.
-- Source: this project's profile.
use Rattle.std.specs.Prelude.{ℕ, ◌+◌, ◌/◌, ◌||◌, max, not, Bool, true, false, List, [], ◌∷◌, fold, length, Option, is_some, if◌then◌else◌}
use Rattle.std.specs.{List.list_any, Option.option_map_or}
use Rattle.snoop_trace.specs.{Extent.Extent, declared.{fault.TextFault.{TextFault, TheVariants.{NoCore, NoBlock}}, protocol.Protocol.Protocol}}
use Rattle.snoop_lint.specs.{declared.{form.Form.Form, tally.Tally.Tally}, Findings.{Finding, findings, heads}, Kinds.{address_named, asks, core_named, drives, kind_of}}

-- a fault that more cores or more blocks would mend
abbrev pub is_limit : TextFault → Bool
is_limit (NoCore n) = true
is_limit (NoBlock n) = true
is_limit _ = false

-- the text has a heading
abbrev pub has_heading : Form → List (List (List ℕ)) → Bool
has_heading form [] = false
has_heading form (first ∷ rest) = heads form 1 first

-- the block that a record names; 0 where it names none
abbrev pub block_named : Extent → List (List ℕ) → ℕ
block_named shape fields = address_named fields / shape.block_bytes

-- the greatest number that records name
abbrev pub greatest : (List (List ℕ) → ℕ) → List (List (List ℕ)) → ℕ
greatest number rows = fold (λ most row. max most (number row)) 0 rows

-- a core asks for something
abbrev pub is_asking : List (List ℕ) → Bool
is_asking fields = option_map_or asks (kind_of fields) false

-- the bus does something
abbrev pub is_driving : List (List ℕ) → Bool
is_driving fields = option_map_or drives (kind_of fields) false

-- what is counted of the records of a text: how many they are, how many are faulty, and whether more cores and blocks would not mend all
-- of these; whether there is a heading, whether cores ask and the bus is driven; the greatest core and the greatest block that are named
unfoldable pub tally_of : Form → Protocol → Extent → List (List (List ℕ)) → Tally
tally_of form protocol shape rows = record {
  records = length rows;
  faults = length (findings form protocol shape rows);
  has_others = list_any (λ (f : Finding). not (is_limit f.fault)) (findings form protocol shape rows);
  has_heading = has_heading form rows;
  asks = list_any is_asking rows;
  drives = list_any is_driving rows;
  core = greatest core_named rows;
  block = greatest (block_named shape) rows;
}

-- a fault of another kind
abbrev pub is_other : Option TextFault → Bool
is_other fault = option_map_or (λ f. not (is_limit f)) fault false

-- what is counted after record n, with its fault, if it has one
abbrev pub one_more : Form → Extent → ℕ → List (List ℕ) → Option TextFault → Tally → Tally
one_more form shape n fields fault tally = record {
  records = n;
  faults = tally.faults + (if is_some fault then 1 else 0);
  has_others = tally.has_others || is_other fault;
  has_heading = tally.has_heading || heads form n fields;
  asks = tally.asks || is_asking fields;
  drives = tally.drives || is_driving fields;
  core = max tally.core (core_named fields);
  block = max tally.block (block_named shape fields);
}
