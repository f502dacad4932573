-- How a whole text is read.
-- Source: this project's profile, over the records of the crate csv.
use Rattle.std.specs.Prelude.{◌≡◌, ℕ, ◌+◌, Bool, true, false, List, [], ◌∷◌, Option, Some, None, Result, Ok, Err, if◌then◌else◌}
use Rattle.csv.specs.Reading.{default_config, records, strip_bom}
use Rattle.snoop_trace.specs.{Extent.Extent, Grammar.{◌>>=◌, row_in, step_in}, Heading.{heading_as, heading_for, is_heading}, declared.record.Heading.Heading}
use Rattle.snoop_trace.specs.declared.{fault.TextFault.{TextFault, TheVariants.{Read, NoMemory}}, protocol.Protocol.Protocol, step.{Row.Row, Step.Step}}

-- the records of a text: commas, double quotes, any length, no header row, no comment, no trimming
abbrev pub records_of : List ℕ → List (List (List ℕ))
records_of bytes = records default_config (strip_bom bytes)

-- what records say that are numbered from n, one after another, or the first fault
unfoldable pub entries_from :
    {A : Type 0} → (ℕ → List (List ℕ) → Result A TextFault) → ℕ → List (List (List ℕ)) → Result (List A) TextFault
entries_from says n [] = Ok []
entries_from says n (row ∷ rest) = do
  entry ← says n row
  entries ← entries_from says (n + 1) rest
  Ok (entry ∷ entries)

-- the same of a whole text: where a heading is asked for, the first record may be one, and is no entry then
unfoldable pub entries_in :
    {A : Type 0} → (ℕ → List (List ℕ) → Result A TextFault) → Option Heading → List (List (List ℕ)) → Result (List A) TextFault
entries_in says None rows = entries_from says 1 rows
entries_in says (Some asked) [] = Ok []
entries_in says (Some asked) (first ∷ rest) =
    if is_heading first then (heading_as asked 1 first >>= λ heading. entries_from says 2 rest)
    else entries_from says 1 (first ∷ rest)

-- the steps of a text for this protocol and shape, or its first fault
abbrev pub steps_of : Protocol → Extent → List ℕ → Result (List Step) TextFault
steps_of protocol shape bytes = entries_in (step_in shape) (Some (heading_for protocol shape)) (records_of bytes)

-- the rows of a text, or its first fault
abbrev pub rows_of : Extent → List ℕ → Result (List Row) TextFault
rows_of shape bytes = entries_in (row_in shape) None (records_of bytes)

-- what was answered is what the text says, unless the reader failed or memory ran out
abbrev pub Gives : {X Y : Type 0} → (X → Y) → Result X TextFault → Result Y TextFault → Type 0
Gives view (Ok x) said = said ≡ Ok (view x)
Gives view (Err Read) said = Unit {0}
Gives view (Err NoMemory) said = Unit {0}
Gives view (Err fault) said = said ≡ Err fault

-- where it is known that no read of the reader had failed: one has failed since exactly where the reader is blamed
abbrev pub BlamesReader : Option Bool → Option Bool → Type 0 → Type 0
BlamesReader old new blamed = old ≡ Some false → (blamed → new ≡ Some true) × (¬ blamed → new ≡ Some false)
