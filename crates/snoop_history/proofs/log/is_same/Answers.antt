use Rattle.std.proofs.Common.{◌≡◌, ◌∙◌, sym, refl, true, Some, None, ap, arith}
use Rattle.snoop_history.{proofs.Common.{Did, Item, and_from, and_parts, common_steps, nat_tests}, specs.declared.items.Came.Came}
use Rattle.snoop_history.specs.contracts.items.ItemPartialEq.TheImpl.{eq-value}
use Rattle.snoop_history.specs.declared.items.Item.TheVariants as item
use Rattle.snoop_history.proofs.log.is_same.Goals as goal

same-did : (a b : Did) → eq-value.it (item.Did a) (item.Did b) ≡ true → a ≡ b
same-did a b e = grind (arith, common_steps, nat_tests)

same-came : (a b : Came) → eq-value.it (item.Came a None) (item.Came b None) ≡ true → a ≡ b
same-came a b e = grind (arith, common_steps, nat_tests)

same : (x y : Item) → eq-value.it x y ≡ true → x ≡ y
same (item.Did a) (item.Did b) e = ap item.Did (same-did a b e)
same (item.Came a None) (item.Came b None) e = rw (same-came a b e) refl
same (item.Came a (Some c)) (item.Came b (Some d)) e =
    let (came, did) = and_parts _ _ e in
    rw (same-came a b (and_from _ true came refl), same-did c d did) refl
same x y e = grind (arith, common_steps, nat_tests)

pub returns-clause-sound : goal.returns-clause-sound
returns-clause-sound c is = same c.args.one c.args.other (sym c.eq.ensures ∙ is)
