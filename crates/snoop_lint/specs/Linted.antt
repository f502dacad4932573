-- What is written of a text.
-- Source: this project's profile.
use Rattle.std.specs.{Prelude.{◌≡◌, ℕ, List, ◌++◌, take, Option, Result, Ok, Err, IfSome}, Io.KnownBytes.Appends, List.flat_map}
use Rattle.snoop_trace.specs.{Extent.Extent, Output.AppendsFront, Text.records_of, declared.protocol.Protocol.Protocol}
use Rattle.snoop_lint.specs.{declared.{fault.LintFault.{LintFault, TheVariants.{Read, NoMemory, Write}}, form.Form.Form}, Explained.finding_line}
use Rattle.snoop_lint.specs.{Findings.{Finding, findings}, Lines.{line_of, record_lines}, Summary.summary, Tallies.tally_of}

-- the line of a faulty record, on the line of the text that it has among these
abbrev pub line_at : Form → Protocol → Extent → List ℕ → Finding → List ℕ
line_at form protocol shape lines found = finding_line form protocol shape (line_of lines found.number) found

-- the lines of the first faulty records, as many as are wanted
unfoldable pub first_lines : Form → ℕ → Protocol → Extent → List ℕ → List (List (List ℕ)) → List ℕ
first_lines form most protocol shape lines rows = flat_map (line_at form protocol shape lines) (take most (findings form protocol shape rows))

-- all that is written of a text
unfoldable pub lint_of : Form → ℕ → Protocol → Extent → List ℕ → List ℕ
lint_of form most protocol shape bytes =
    first_lines form most protocol shape (record_lines bytes) (records_of bytes) ++ summary form most (tally_of form protocol shape (records_of bytes))

-- the bytes of a text that was read to its end: all that it has, where that is known
abbrev pub IsWhole : Option (List ℕ) → List ℕ → Type 0
IsWhole input bytes = IfSome input (λ all. bytes ≡ all)

-- the whole text was read, and all that is said of it written, or a beginning of that
abbrev pub Lints : Form → ℕ → Protocol → Extent → Option (List ℕ) → Result (Unit {0}) LintFault → Option (List ℕ) → Option (List ℕ) → Type 0
Lints form most protocol shape input (Ok u) old new = (bytes : List ℕ) × (IsWhole input bytes × Appends old new (lint_of form most protocol shape bytes))
Lints form most protocol shape input (Err Write) old new = (bytes : List ℕ) × (IsWhole input bytes × AppendsFront old new (lint_of form most protocol shape bytes))
Lints form most protocol shape input (Err Read) old new = Unit {0}
Lints form most protocol shape input (Err NoMemory) old new = Unit {0}
