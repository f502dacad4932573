use Rattle.std.proofs.Common.{◌+◌, ap}
use Rattle.snoop_svg.proofs.drawing.Drawing.push_drawn.Goals as goal

pub returns-clause-place : goal.returns-clause-place
returns-clause-place c low = ap (λ n. n + 1) c.in_ok-push_placed.ensures.plan.1

pub returns-clause-below : goal.returns-clause-below
returns-clause-below c above low stands =
    let below = c.in_ok-push_placed.ensures.below above stands in
    record { number = below.number; cells = below.cells }

pub returns-clause-shown : goal.returns-clause-shown
returns-clause-shown c above low stands = c.in_ok-push_placed.ensures.text above stands
