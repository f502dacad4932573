use Rattle.snoop_machine.proofs.{Common.{arith, moves_to, line_at}, LineMaps.{HasWritten, lines_after, writes, stands, has_line, in_rows}, lines.Lines.take_row.Goals.After-follow}
use Rattle.snoop_machine.proofs.lines.Lines.take_row.Goals as goal

pub index_mut-cache-requires : goal.index_mut-cache-requires
index_mut-cache-requires g c = let within = in_rows c.self.invariant c.self.view_is c.args.core c.args.block c.requires.block c.requires.core in omega arith

pub take_row-before-requires : goal.take_row-before-requires
take_row-before-requires g c =
    let has = has_line c.self.invariant c.self.view_is c.args.core c.args.block c.requires.block c.requires.core _ c.index_mut-cache.ensures.value in
    record {
      proper = rw has.its.read (c.self.invariant.proper c.args.core c.args.block);
      row = rw has.was c.requires.row;
      lands = rw has.was c.requires.lands;
      absent = c.requires.absent;
    }

pub follow-requires : goal.follow-requires
follow-requires g c =
    let has = has_line c.self.invariant c.self.view_is c.args.core c.args.block c.requires.block c.requires.core _ c.index_mut-cache.ensures.value in
    record { core = omega (arith, has.its.lines.few, has.its.in_cores); block = has.in_blocks; stands = stands has _ c.take_row-before.ensures.before }

-- the map has the line in its next state, and the holders have followed
wrote : (g : _) (c : After-follow g)
    → HasWritten c.self.inside.caches.items c.self.inside.holders c.args.self.now c.args.core c.args.block (moves_to c.take_row-before.result.1 (line_at c.args.self.now.rows c.args.core c.args.block))
    c.index_mut-cache.result.now c.take_row-before.new.self c.follow.new.holders
wrote g c =
    let has = has_line c.self.invariant c.self.view_is c.args.core c.args.block c.requires.block c.requires.core _ c.index_mut-cache.ensures.value in
    let took = rw has.was at c.take_row-before.ensures.row in
    record { has = has; proper = c.requires.lands took.0 _ took.1; entry = rw (← has.was) c.take_row-before.ensures.wrote; followed = c.follow.ensures }

pub invariant_of-self : goal.invariant_of-self
invariant_of-self g c = lines_after (wrote g (goal.at.invariant_of-self g c).After-follow)

pub returns : goal.returns
returns g c =
    let has = has_line c.self.invariant c.self.view_is c.args.core c.args.block c.requires.block c.requires.core _ c.index_mut-cache.ensures.value in
    let took = rw has.was at c.take_row-before.ensures.row in
    record { action = took.0; next = _; row = took.1; wrote = writes (wrote g (goal.at.returns g c).After-follow) }
