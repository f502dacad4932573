-- How wide the columns of a text's tables are.
-- Source: this project's profile.
use Rattle.std.specs.Prelude.{◌+◌, ◌*◌, max, List, length}
use Rattle.snoop_trace.specs.{Extent.Extent, declared.step.Step.Step}
use Rattle.snoop_engine.specs.Widths.{digits, most_stored}
use Rattle.snoop_states.specs.declared.widths.Widths.{Widths}

-- room for the values of a block's words, each with a blank before it, and for the number of a step
abbrev pub widths_of : Extent → List Step → Widths
widths_of shape steps = record { values = shape.words * (digits (most_stored steps) + 1); number = max 4 (digits (length steps)) }
