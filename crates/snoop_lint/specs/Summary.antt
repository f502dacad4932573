-- What is said of a whole text.
-- Source: this project's profile.
use Rattle.std.specs.Prelude.{ℕ, ◌+◌, ◌==◌, ◌&&◌, ◌||◌, not, Bool, List, [], ◌++◌, codes, nat_lt, if◌then◌else◌}
use Rattle.snoop_lint.specs.{declared.{form.Form.{Form, TheVariants.{Steps, Rows}}, tally.Tally.Tally}, Shown.{counted, labelled}}

-- how many faults there are
unfoldable pub fault_count : ℕ → List ℕ
fault_count faults = if faults == 0 then codes "no fault" else counted faults (codes "fault")

-- how many of them are shown, where that is not all
unfoldable pub shown_count : ℕ → ℕ → List ℕ
shown_count most faults = if nat_lt most faults then labelled (codes ", ") most ++ codes " shown" else []

-- the line of counts
unfoldable pub count_line : ℕ → Tally → List ℕ
count_line most tally = fault_count tally.faults ++ codes " in " ++ counted tally.records (codes "record") ++ shown_count most tally.faults ++ codes "\n"

-- with enough cores and blocks the text is taken, and it has a record
unfoldable pub can_be_taken : Tally → Bool
can_be_taken tally = nat_lt 0 tally.records && not tally.has_others && not tally.has_heading && nat_lt tally.core 256 && nat_lt tally.block 65536

-- the fewest cores and blocks with which it is
unfoldable pub needs_line : Tally → List ℕ
needs_line tally =
    if can_be_taken tally then labelled (codes "needs --cores ") (tally.core + 1) ++ labelled (codes " --blocks ") (tally.block + 1) ++ codes "\n" else []

-- a text that may be of the other form
unfoldable pub slip_line : Form → Tally → List ℕ
slip_line Steps tally =
    if not tally.asks || tally.drives then []
    else if tally.has_heading then codes "no O and no R: is this, without its heading, a text for snoop run?\n"
    else codes "no O and no R: is this a text for snoop run?\n"
slip_line Rows tally = if tally.drives then codes "with O or R: is this a text for snoop steps?\n" else []

-- what is said of a whole text
unfoldable pub summary : Form → ℕ → Tally → List ℕ
summary form most tally = count_line most tally ++ needs_line tally ++ slip_line form tally
