use Rattle.snoop_machine.proofs.{Common.{[], ◌∙◌, map-set, Contents, set-get_or}, lines.Lines.reserve.Goals.After-reserve}
use Rattle.snoop_machine.proofs.LineMaps.{IsMap, is_map, blocks_seen, blocks_set, lines_kept, rows_kept, spare_now, spares_kept}
use Rattle.snoop_machine.proofs.lines.Lines.reserve.Goals as goal

its : (g : _) (c : After-reserve g) → IsMap c.self.inside.caches.items c.self.inside.holders c.args.self.now c.args.core c.index_mut-cache.result.now
its g c = is_map c.self.invariant c.self.view_is c.args.core c.requires.core _ c.index_mut-cache.ensures.value

pub invariant_of-self : goal.invariant_of-self
invariant_of-self g c = lines_kept (its g (goal.at.invariant_of-self g c).After-reserve) c.reserve.new.self c.reserve.ensures.same

pub returns-clause-rows : goal.returns-clause-rows
returns-clause-rows g c = rows_kept (its g (goal.at.returns-clause-rows g c).After-reserve) c.reserve.new.self c.reserve.ensures.same

pub returns-clause-lines : goal.returns-clause-lines
returns-clause-lines g c =
    let its = its g (goal.at.returns-clause-lines g c).After-reserve in
    blocks_set its c.reserve.new.self
    ∙ rw (c.reserve.ensures.blocks, its.read, blocks_seen c.self.invariant c.self.view_is c.args.core) (set-get_or c.args.self.now.lines c.args.core [])

pub returns-clause-ok : goal.returns-clause-ok
returns-clause-ok g c = rw (spare_now (its g (goal.at.returns-clause-ok g c).After-reserve) c.reserve.new.self) c.reserve.ensures.ok

pub returns-clause-line_rooms : goal.returns-clause-line_rooms
returns-clause-line_rooms g c =
    rw (← c.self.view_is, spare_now (its g (goal.at.returns-clause-line_rooms g c).After-reserve) c.reserve.new.self)
    (map-set (λ (cache : Contents). cache.spare) c.self.inside.caches.items c.args.core c.reserve.new.self)

pub returns-clause-room : goal.returns-clause-room
returns-clause-room g c = spares_kept (its g (goal.at.returns-clause-room g c).After-reserve) c.reserve.new.self c.self.inside.holders c.reserve.ensures.room
