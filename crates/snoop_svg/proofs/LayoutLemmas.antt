-- Lanes are not wide.
use Rattle.std.proofs.Common.{ℕ, ◌+◌, ◌*◌, ◌≤◌, List, [], ◌∷◌, length, arith}
use Rattle.snoop_svg.specs.{declared.sizes.Sizes.Sizes, Layout.{AreNarrow, after_lanes}}

pub after_lanes_near : (sizes : Sizes) → AreNarrow sizes → (x : ℕ) (cores : List ℕ) → after_lanes sizes x cores ≤ x + 11508 * length cores
after_lanes_near sizes narrow x [] = omega arith
after_lanes_near sizes narrow x (core ∷ cores) = omega (arith, narrow.lane, after_lanes_near sizes narrow (x + sizes.lane + 8) cores)
