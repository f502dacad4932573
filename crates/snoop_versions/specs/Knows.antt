-- What a handle to the versions knows, under a name that an `impl Model` may use beside its own `view`.
-- Source: this project's profile.
use Rattle.std.specs.Prelude.{Option}
use Rattle.atomic_table.specs.declared.shared.Seat.{Seat}
use Rattle.left_right.specs.{declared.{part.Part.Part, board.Doing.Doing}, Sides.view}

-- what the handle with this place in the table knows
abbrev pub knows : {T V : Type 0} → Seat (Option (Part T)) (Doing T V) → V
knows s = view s
