-- How wide the columns of a drawing are.
-- Source: this project's profile.
use Rattle.std.specs.Prelude.{ℕ, ◌+◌, ◌-◌, ◌*◌, List, None, length, max, nat_lt, if◌then◌else◌}
use Rattle.snoop_trace.specs.{Extent.Extent, declared.step.Step.Step}
use Rattle.snoop_engine.specs.Widths.{digits, most_stored}
use Rattle.snoop_draw.specs.{declared.widths.Widths.Widths, Panels.panels_for}

-- the values of a block's words, each with as many digits as the largest that is stored, and a blank between two
abbrev pub values_width : Extent → List Step → ℕ
values_width shape steps = shape.words * (digits (most_stored steps) + 1) - 1

-- ` #PLACE`, where so many blocks are asked for: no place is behind their number, and where there is one alone no place is said
abbrev pub place_width : ℕ → ℕ
place_width blocks = if nat_lt blocks 2 then 0 else 2 + digits blocks

-- the number of the last step, or the word step; `SM_AD VALUES #PLACE`, or the name `core CORE`; `CCORE GetS: DataE VALUES`; `IorS_D (VALUES)`
abbrev pub widths_of : Extent → List Step → ℕ → Widths
widths_of shape steps blocks =
    record {
      number = max (digits (length steps)) 4;
      core = max (6 + values_width shape steps + place_width blocks) (5 + digits shape.cores);
      bus = 14 + values_width shape steps + digits shape.cores;
      memory = 9 + values_width shape steps;
    }

-- the widths for steps, whichever block is drawn: each block that they ask for has a panel among those of all blocks
abbrev pub widths_for : Extent → List Step → Widths
widths_for shape steps = widths_of shape steps (length (panels_for shape steps None))
