use Rattle.snoop_machine.proofs.{Common.{◌∙◌, refl}, lines.Lines.put_ahead.Goals.After-index_mut-cache}
use Rattle.snoop_machine.proofs.LineMaps.{IsMap, is_map, among_seen, spare_seen, blocks_seen, blocks_set, lines_kept, rows_kept, spares_kept}
use Rattle.snoop_machine.proofs.lines.Lines.put_ahead.Goals as goal

its : (g : _) (c : After-index_mut-cache g) → IsMap c.self.inside.caches.items c.self.inside.holders c.args.self.now c.args.core c.index_mut-cache.result.now
its g c = is_map c.self.invariant c.self.view_is c.args.core c.requires.core _ c.index_mut-cache.ensures.value

pub put_ahead-requires-clause-absent : goal.put_ahead-requires-clause-absent
put_ahead-requires-clause-absent g c =
    rw ((its g (goal.at.put_ahead-requires-clause-absent g c).After-index_mut-cache).read, among_seen c.self.invariant c.self.view_is c.args.core c.args.block) c.requires.absent

pub put_ahead-requires-clause-room : goal.put_ahead-requires-clause-room
put_ahead-requires-clause-room g c =
    rw ((its g (goal.at.put_ahead-requires-clause-room g c).After-index_mut-cache).read, spare_seen c.self.invariant c.self.view_is c.args.core) c.requires.room

pub invariant_of-self : goal.invariant_of-self
invariant_of-self g c = lines_kept (its g (goal.at.invariant_of-self g c).After-index_mut-cache) c.put_ahead.new.self c.put_ahead.ensures.same

pub returns : goal.returns
returns g c =
    let its = its g (goal.at.returns g c).After-index_mut-cache in
    record {
      rows = rows_kept its c.put_ahead.new.self c.put_ahead.ensures.same;
      lines = blocks_set its c.put_ahead.new.self ∙ rw (c.put_ahead.ensures.blocks, its.read, blocks_seen c.self.invariant c.self.view_is c.args.core) refl;
      room = spares_kept its c.put_ahead.new.self c.self.inside.holders c.put_ahead.ensures.room;
    }
