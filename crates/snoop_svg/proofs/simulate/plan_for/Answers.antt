use Rattle.std.proofs.{Common.{◌+◌, arith}, lemmas.Nat.mul-le}
use Rattle.snoop_draw.specs.Size.{columns_of}
use Rattle.snoop_svg.proofs.simulate.plan_for.Goals as goal

pub columns_for-requires-clause-room : goal.columns_for-requires-clause-room
columns_for-requires-clause-room c =
    let columns = columns_of c.args.panels.now + 1 in
    omega (arith, mul-le 1 columns (c.args.rows + 1) columns (omega arith) (omega arith), c.requires.small, c.sizes_for-sizes.ensures.narrow.panels)
