use Rattle.std.proofs.{Common.{◌≡◌, ◌∙◌, sym, ap, arith, Some, slice_get}, lemmas.Grind.elements}
use Rattle.snoop_history.proofs.Common.{option_map, slice_get-map, unpacked}
use Rattle.snoop_history.proofs.log.Log.item.Goals as goal

pub returns : goal.returns
returns c =
    let l = c.self.inside in
    let place = c.args.place in
    let there : slice_get l.items.items place ≡ Some c.in_ok-packed.packed = grind (arith, elements) in
    let item = rw (← c.unpack.ensures) at (slice_get-map unpacked l.items.items place ∙ ap (option_map unpacked) there) in
    let listed = c.self.invariant.kept.listed in
    rw (← c.self.view_is) (record { value = sym item; within = listed.within place _ item; numbered = listed.in_order place _ item })
