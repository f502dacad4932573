use Rattle.std.proofs.Common.{◌≡◌, length, arith, vec_capacity}
use Rattle.snoop_blocks.proofs.Places.{ArePlaces-push, found, seen-push, seen-set, some-room}
use Rattle.snoop_blocks.proofs.block_table.BlockTable.set.Goals as goal

pub push_reserved-requires : goal.push_reserved-requires
push_reserved-requires g c =
    let room = some-room _ c.self.invariant c.self.view_is _ c.requires c.index-place.ensures c.if-place-eq0.true in
    omega (arith, room.0, c.self.inside.written.ok.0)

pub overflow_cast-len : goal.overflow_cast-len
overflow_cast-len g c =
    let room = some-room _ c.self.invariant c.self.view_is _ c.requires c.index-place.ensures c.if-place-eq0.true in
    omega (arith, room.1, c.self.inside.written.ok.0, c.len.ensures, c.push_reserved.ensures.len)

pub invariant_of-self : goal.invariant_of-self
invariant_of-self g c =
    let is_last : c.len.result ≡ length c.push_reserved.new.self.items = omega (arith, c.len.ensures, c.push_reserved.new.self.ok.0) in
    ArePlaces-push _ c.self.invariant c.self.view_is _ c.requires c.index-place.ensures c.if-place-eq0.true
    c.args.value {after = c.push_reserved.new.self.items} c.push_reserved.ensures.items is_last
    (vec_capacity c.push_reserved.new.self) (omega (arith, c.push_reserved.ensures.capacity))

pub returns-then-place-eq0 : goal.returns-then-place-eq0
returns-then-place-eq0 g c =
    seen-push _ c.self.invariant c.self.view_is _ c.requires c.index-place.ensures c.if-place-eq0.true
    c.args.value c.push_reserved.ensures.items (omega (arith, c.len.ensures, c.push_reserved.new.self.ok.0))

pub returns-else-place-eq0 : goal.returns-else-place-eq0
returns-else-place-eq0 g c =
    seen-set _ c.self.invariant c.self.view_is _ (found _ c.self.invariant c.self.view_is _ c.requires c.index-place.ensures).1 c.if-place-eq0.false c.args.value
