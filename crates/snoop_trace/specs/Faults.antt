-- Why one record of a text is refused, where no record before it is.
-- Source: this project's profile.
use Rattle.std.specs.{Prelude.{ℕ, ◌==◌, ◌&&◌, List, Option, if◌then◌else◌}, Result.result_err}
use Rattle.snoop_trace.specs.{Extent.Extent, Grammar.{row_in, step_in}, Heading.{heading_as, heading_for, is_heading}, declared.fault.TextFault.TextFault}
use Rattle.snoop_trace.specs.declared.protocol.Protocol.{Protocol}

-- why record n of a text of steps is refused; record 1 may be a heading
abbrev pub step_fault : Protocol → Extent → ℕ → List (List ℕ) → Option TextFault
step_fault protocol shape n fields =
    if (n == 1) && is_heading fields then result_err (heading_as (heading_for protocol shape) n fields) else result_err (step_in shape n fields)

-- why record n of a text of rows is refused
abbrev pub row_fault : Extent → ℕ → List (List ℕ) → Option TextFault
row_fault shape n fields = result_err (row_in shape n fields)
