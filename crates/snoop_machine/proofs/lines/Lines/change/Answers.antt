use Rattle.snoop_machine.proofs.{Common.{arith, changed, line_at}, LineMaps.{HasWritten, lines_after, writes, stands, has_line, in_rows, held_placed, among_seen, settled}, lines.Lines.change.Goals.After-follow}
use Rattle.snoop_machine.proofs.lines.Lines.change.Goals as goal

pub index_mut-cache-requires : goal.index_mut-cache-requires
index_mut-cache-requires g c = let within = in_rows c.self.invariant c.self.view_is c.args.core c.args.block c.requires.block c.requires.core in omega arith

pub change-before-requires : goal.change-before-requires
change-before-requires g c =
    let has = has_line c.self.invariant c.self.view_is c.args.core c.args.block c.requires.block c.requires.core _ c.index_mut-cache.ensures.value in
    let held = held_placed c.self.invariant c.self.view_is c.args.core c.args.block in
    record {
      place = rw has.its.read (grind (arith, held, among_seen c.self.invariant c.self.view_is c.args.core c.args.block, c.requires.place));
      words = c.requires.words;
      leaves = grind (arith, has.was, c.requires.place);
      settled = rw has.was (settled _ c.requires.proper);
    }

pub follow-requires : goal.follow-requires
follow-requires g c =
    let has = has_line c.self.invariant c.self.view_is c.args.core c.args.block c.requires.block c.requires.core _ c.index_mut-cache.ensures.value in
    record { core = omega (arith, has.its.lines.few, has.its.in_cores); block = has.in_blocks; stands = stands has _ c.change-before.ensures.before }

-- the map has the changed line, and the holders have followed
wrote : (g : _) (c : After-follow g)
    → HasWritten c.self.inside.caches.items c.self.inside.holders c.args.self.now c.args.core c.args.block (changed c.args.next c.args.change (line_at c.args.self.now.rows c.args.core c.args.block))
    c.index_mut-cache.result.now c.change-before.new.self c.follow.new.holders
wrote g c =
    let has = has_line c.self.invariant c.self.view_is c.args.core c.args.block c.requires.block c.requires.core _ c.index_mut-cache.ensures.value in
    record { has = has; proper = c.requires.proper; entry = rw (← has.was) c.change-before.ensures.wrote; followed = c.follow.ensures }

pub invariant_of-self : goal.invariant_of-self
invariant_of-self g c = lines_after (wrote g (goal.at.invariant_of-self g c).After-follow)

pub returns : goal.returns
returns g c = writes (wrote g (goal.at.returns g c).After-follow)
