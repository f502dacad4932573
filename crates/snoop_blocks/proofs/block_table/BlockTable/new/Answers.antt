use Rattle.std.proofs.Common.{◌≡◌, length, arith, vec_capacity}
use Rattle.snoop_blocks.proofs.Places.{ArePlaces-new, seen-new}
use Rattle.snoop_blocks.proofs.block_table.BlockTable.new.Goals as goal

pub invariant_of-result : goal.invariant_of-result
invariant_of-result g c =
    let written = c.in_ok-written.written in
    let none : length written.items ≡ 0 = omega (arith, written.ok.0, c.in_ok-written.ensures.len) in
    rw (c.in_ok-places.ensures.items_if_clones_equal (λ y h. h))
    (ArePlaces-new c.args.blocks written.items (vec_capacity written) (omega (arith, c.ranges.blocks.fits)) none (omega (arith, c.in_ok-written.ensures.capacity)))

pub returns : goal.returns
returns g c = rw (c.in_ok-places.ensures.items_if_clones_equal (λ y h. h)) (seen-new c.args.first c.in_ok-written.written.items c.args.blocks)
