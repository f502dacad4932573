-- How the lines of a text's faulty records grow by one record.
-- Source: this project's profile.
use Rattle.std.specs.{Prelude.{ℕ, List, [], nat_lt, if◌then◌else◌}, Option.option_map_or}
use Rattle.snoop_trace.specs.{Extent.Extent, declared.protocol.Protocol.Protocol}
use Rattle.snoop_lint.specs.{declared.form.Form.Form, Findings.{fault_at, finding}, Linted.line_at}

-- the line of record n, if it is faulty
abbrev pub line_if_faulty : Form → Protocol → Extent → List ℕ → ℕ → List (List ℕ) → List ℕ
line_if_faulty form protocol shape lines n fields = option_map_or (line_at form protocol shape lines) (finding (fault_at form protocol shape) n fields) []

-- the same, if there are fewer faulty records before it than lines are wanted
abbrev pub line_if_room : Form → ℕ → Protocol → Extent → List ℕ → ℕ → ℕ → List (List ℕ) → List ℕ
line_if_room form most protocol shape lines faults n fields = if nat_lt faults most then line_if_faulty form protocol shape lines n fields else []
