-- A machine is seen as its parts are.
-- Source: this project's profile.
use Rattle.snoop_machine.specs.{AnyParts.stand, declared.machine.Machine.TheInside.Inside, Standing.Standing}
use Rattle.snoop_model.specs.Invariant.MachineKeeps.{MachineKeeps}

-- the view of a machine is that of its parts
abbrev pub as_parts_stand : Inside → Standing
as_parts_stand m = stand m.parts

-- the parts of every machine keep it
abbrev pub ArePartsCoherent : Inside → Type 0
ArePartsCoherent m = MachineKeeps (stand m.parts).situation
