use Rattle.std.{proofs.Common.{◌≡◌, ◌∙◌, [], true, false, length, arith, ap, subst, length-set, length-append}, specs.Prelude.{◌∷◌, IsOk}}
use Rattle.snoop_history.proofs.Marks.{inserted, room-left, marks-after, is_inside, is_free}
use Rattle.snoop_history.proofs.board.TouchedBlocks.put_last.Goals as goal

pub invariant_of-self : goal.invariant_of-self
invariant_of-self c =
    let t = c.self.inside in
    let kept = c.self.invariant in
    let within = is_inside t c.self.view_is c.requires.within in
    let free = is_free t c.self.view_is c.requires.within kept c.requires.unmarked in
    let keys = c.in-Ok.ensures.keys in
    let more = ap length (keys ∙ inserted t.marks.items t.order.keys kept.marks c.args.block within free) ∙ length-append t.order.keys (c.args.block ∷ []) in
    record {
      marks = marks-after t.marks.items t.order.keys kept.marks c.args.block within free c.insert.new.self.keys keys;
      room = omega (arith, kept.room, c.insert.ensures.spare, length-set t.marks.items c.args.block true);
    }

pub unreachable-requires : goal.unreachable-requires
unreachable-requires c =
    let t = c.self.inside in
    let kept = c.self.invariant in
    let free = is_free t c.self.view_is c.requires.within kept c.requires.unmarked in
    let left = room-left t.marks.items t.order.keys kept.marks c.args.block (is_inside t c.self.view_is c.requires.within) free in
    let succeeds = c.insert.ensures.succeeds (omega (arith, left, kept.room)) in
    let fails : false ≡ true = subst IsOk c.in_default.is succeeds in
    cc
