use Rattle.std.proofs.{Common.{◌≡◌, ap, arith, false, length, replicate}, lemmas.List.length-replicate}
use Rattle.snoop_history.proofs.Marks.{marks-at_first}
use Rattle.snoop_history.proofs.board.TouchedBlocks.new.Goals as goal

pub invariant_of-result : goal.invariant_of-result
invariant_of-result c =
    let blocks = c.args.blocks in
    let marks : c.in_ok-vec.field-0.items ≡ replicate blocks false = c.in_ok-vec.ensures.items_if_clones_equal (λ y h. h) in
    let room = c.in_ok-with_capacity.ensures.spare in
    record { marks = marks-at_first blocks _ _ marks c.in_ok-with_capacity.ensures.empty; room = omega (arith, ap length marks, length-replicate blocks false) }
