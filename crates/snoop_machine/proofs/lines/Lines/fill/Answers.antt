use Rattle.snoop_machine.proofs.{Common.{arith, filled_line}, LineMaps.{HasWritten, lines_after, writes, stands, has_line, in_rows, held_placed}, lines.Lines.fill.Goals.After-follow}
use Rattle.snoop_machine.proofs.lines.Lines.fill.Goals as goal

pub index_mut-cache-requires : goal.index_mut-cache-requires
index_mut-cache-requires g c = let within = in_rows c.self.invariant c.self.view_is c.args.core c.args.block c.requires.block c.requires.core in omega arith

pub fill-before-requires-clause-place : goal.fill-before-requires-clause-place
fill-before-requires-clause-place g c =
    let has = has_line c.self.invariant c.self.view_is c.args.core c.args.block c.requires.block c.requires.core _ c.index_mut-cache.ensures.value in
    rw has.its.read (held_placed c.self.invariant c.self.view_is c.args.core c.args.block c.requires.held)

pub follow-requires : goal.follow-requires
follow-requires g c =
    let has = has_line c.self.invariant c.self.view_is c.args.core c.args.block c.requires.block c.requires.core _ c.index_mut-cache.ensures.value in
    record { core = omega (arith, has.its.lines.few, has.its.in_cores); block = has.in_blocks; stands = stands has _ c.fill-before.ensures.before }

-- the map has the filled line, and the holders have followed
wrote : (g : _) (c : After-follow g)
    → HasWritten c.self.inside.caches.items c.self.inside.holders c.args.self.now c.args.core c.args.block (filled_line c.args.next c.args.access c.args.words.now) c.index_mut-cache.result.now c.fill-before.new.self c.follow.new.holders
wrote g c =
    let has = has_line c.self.invariant c.self.view_is c.args.core c.args.block c.requires.block c.requires.core _ c.index_mut-cache.ensures.value in
    record { has = has; proper = c.requires.proper; entry = c.fill-before.ensures.wrote; followed = c.follow.ensures }

pub invariant_of-self : goal.invariant_of-self
invariant_of-self g c = lines_after (wrote g (goal.at.invariant_of-self g c).After-follow)

pub returns : goal.returns
returns g c = writes (wrote g (goal.at.returns g c).After-follow)
