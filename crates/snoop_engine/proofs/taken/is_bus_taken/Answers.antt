use Rattle.snoop_engine.proofs.{Common.◌≡◌, Common.◌<◌, Common.◌∙◌, Common.{ap, arith, common_steps, Extent, BusTaken}}
use Rattle.snoop_engine.proofs.taken.is_bus_taken.Goals as goal

pub returns-in-Some : goal.returns-in-Some
returns-in-Some c =
    let s = c.args.machine.now.situation in
    let cores : c.cores.result ≡ s.shape.cores = c.cores.ensures.value ∙ ap (λ (x : Extent). x.cores) c.shape.ensures in
    let inside : c.in-Order.core < s.shape.cores = omega arith in
    let head = rw (c.in-Order.is, c.in-Some.is) at c.requires in
    λ there. rw c.in-Order.is (BusTaken c.in-Some.block, (inside, head.first, grind (arith, common_steps, c.is_some.ensures, c.requestor.ensures, there)))
