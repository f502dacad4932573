use Rattle.std.proofs.lemmas.{Bool.{Decides.nat_tests, eq-eqb}, Result.on_ok_weaker}
use Rattle.snoop_engine.proofs.Common.{◌≡◌, [], refl, ap, append_assoc, append-nil, arith, Chosen, Extent, Protocol, reset}
use Rattle.snoop_svg.specs.Drawings.{row_above}
use Rattle.snoop_svg.proofs.drawing.DrawingView.begin.Goals as goal

-- the row above that of the first step, where that one may be drawn
at_reset : (choice : Chosen) (protocol : Protocol) (shape : Extent) → choice.from ≡ 1
    → row_above choice protocol shape [] ≡ record { number = 0; situation = reset protocol shape }
at_reset choice protocol shape one = rw one refl

pub returns-then-from-eq1-clause-begins : goal.returns-then-from-eq1-clause-begins
returns-then-from-eq1-clause-begins c =
    let s = c.args.machine.now.situation in
    let plan = c.start.ensures.plan.0 in
    let one : c.start.new.self.plan.choice.from ≡ 1 = grind (arith, ap (λ plan. plan.choice) plan) in
    on_ok_weaker c.start.result
    (λ stands. record {
      plan = plan;
      place = omega (arith, c.start.ensures.plan.1);
      above = λ late few. rw (at_reset c.start.new.self.plan.choice s.protocol s.shape one, ← c.requires) stands;
    })
    c.start.ensures.below

pub returns-then-from-eq1-clause-text : goal.returns-then-from-eq1-clause-text
returns-then-from-eq1-clause-text c =
    let choice = c.args.self.now.plan.choice in
    let one : choice.from ≡ 1 = grind arith in
    rw (eq-eqb choice.from 1 one, ← c.requires) (rw (c.in_ok-begin_sheets.ensures, append_assoc) at c.start.ensures.text)

pub returns-else-from-eq1-clause-begins : goal.returns-else-from-eq1-clause-begins
returns-else-from-eq1-clause-begins c = record { plan = refl; place = omega arith; above = λ late few. absurd (grind arith) }

pub returns-else-from-eq1-clause-text : goal.returns-else-from-eq1-clause-text
returns-else-from-eq1-clause-text c = grind (arith, nat_tests, append-nil)
