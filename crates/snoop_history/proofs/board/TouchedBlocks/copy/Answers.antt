use Rattle.std.proofs.Common.{◌≡◌, ◌∙◌, ap, arith, length}
use Rattle.snoop_history.proofs.{Common.{each_same, spare}, Pushed.length-filter-le}
use Rattle.snoop_history.proofs.board.TouchedBlocks.copy.Goals as goal

pub overflow_sub-len : goal.overflow_sub-len
overflow_sub-len c =
    let t = c.self.inside in
    omega (arith, c.len.ensures, c.len-2.ensures.len, length-filter-le (λ mark. mark) t.marks.items, c.self.invariant.marks.counted, ap length (each_same _ _ c.in_ok-order.ensures.cases))

pub invariant_of-result : goal.invariant_of-result
invariant_of-result c =
    let t = c.self.inside in
    let clone = each_same _ _ c.in_ok-order.ensures.cases in
    let keys = ap (λ s. s.keys) c.order.view_is ∙ c.reserve.ensures.keys ∙ clone in
    let marks : c.in_ok-from_slice.field-0.items ≡ t.marks.items = c.in_ok-from_slice.ensures.items ∙ c.deref.ensures.value in
    let long_marks = ap length marks in
    let view_spare = ap spare c.order.view_is in
    let room = c.in_ok-reserve.ensures.ok in
    record { marks = rw (marks, keys) c.self.invariant.marks; room = omega (arith, ap length keys, ap length clone, c.len.ensures, c.len-2.ensures.len, t.marks.ok.0) }

pub returns : goal.returns
returns c =
    let keys = ap (λ s. s.keys) c.order.view_is ∙ c.reserve.ensures.keys ∙ each_same _ _ c.in_ok-order.ensures.cases in
    let many = ap length (c.in_ok-from_slice.ensures.items ∙ c.deref.ensures.value) in
    (λ i. record { blocks = many i; order = keys i }) ∙ c.self.view_is
