-- The parts of a machine, however they hold the words of a block.
-- Source: this project's profile.
use Rattle.snoop_machine.specs.{declared.machine.AnyParts.{AnyParts, TheVariants.{One, Two, Four, Eight, Sixteen, ThirtyTwo, SixtyFour}}, Standing.Standing}

-- their view
abbrev pub stand : AnyParts → Standing
stand (One parts) = parts
stand (Two parts) = parts
stand (Four parts) = parts
stand (Eight parts) = parts
stand (Sixteen parts) = parts
stand (ThirtyTwo parts) = parts
stand (SixtyFour parts) = parts
