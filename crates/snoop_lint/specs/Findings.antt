-- Which records of a text are faulty.
-- Source: this project's profile.
use Rattle.std.specs.{Prelude.{ℕ, ◌+◌, Bool, false, List, [], ◌∷◌, ◌++◌, ◌==◌, ◌&&◌, Option, Some, None, option_map, option_to_list}, Result.result_err}
use Rattle.snoop_trace.specs.{Extent.Extent, Faults.{row_fault, step_fault}, Heading.is_heading, Text.{rows_of, steps_of}, declared.fault.TextFault.TextFault}
use Rattle.snoop_trace.specs.declared.protocol.Protocol.{Protocol}
use Rattle.snoop_lint.specs.declared.form.Form.{Form, TheVariants.{Steps, Rows}}

-- the fault by which reading refuses a text, if it does
abbrev pub refusal : Form → Protocol → Extent → List ℕ → Option TextFault
refusal Steps protocol shape bytes = result_err (steps_of protocol shape bytes)
refusal Rows protocol shape bytes = result_err (rows_of shape bytes)

-- why record n is refused, where no record before it is
abbrev pub fault_at : Form → Protocol → Extent → ℕ → List (List ℕ) → Option TextFault
fault_at Steps protocol shape n fields = step_fault protocol shape n fields
fault_at Rows protocol shape n fields = row_fault shape n fields

-- record n is the heading of a text of steps
abbrev pub heads : Form → ℕ → List (List ℕ) → Bool
heads Steps n fields = (n == 1) && is_heading fields
heads Rows n fields = false

-- a faulty record: its number in the text, its fields, and its fault
pub record Finding : Type 0 where
  pub number : ℕ
  pub fields : List (List ℕ)
  pub fault : TextFault

-- the finding of record n, if it is faulty
abbrev pub finding : (ℕ → List (List ℕ) → Option TextFault) → ℕ → List (List ℕ) → Option Finding
finding fault n fields = option_map (λ why. record { number = n; fields = fields; fault = why }) (fault n fields)

-- the faulty ones of records that are numbered from n
unfoldable pub findings_from : (ℕ → List (List ℕ) → Option TextFault) → ℕ → List (List (List ℕ)) → List Finding
findings_from fault n [] = []
findings_from fault n (row ∷ rest) = option_to_list (finding fault n row) ++ findings_from fault (n + 1) rest

-- the faulty records of a text
abbrev pub findings : Form → Protocol → Extent → List (List (List ℕ)) → List Finding
findings form protocol shape rows = findings_from (fault_at form protocol shape) 1 rows

-- the fault of the first faulty record; none where no record is faulty
abbrev pub first_fault : List Finding → Option TextFault
first_fault [] = None
first_fault (f ∷ rest) = Some f.fault
