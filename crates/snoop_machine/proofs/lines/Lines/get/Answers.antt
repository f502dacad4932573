use Rattle.snoop_machine.proofs.{Common.{◌∙◌, ap, arith, line_or_nothing, lookup, nat_eq, Contents}, LineMaps.{has_line, in_rows, among_seen}}
use Rattle.snoop_machine.proofs.lines.Lines.get.Goals as goal

pub index-cache-requires : goal.index-cache-requires
index-cache-requires g c = let within = in_rows c.self.invariant c.self.view_is c.args.core c.args.block c.requires.block c.requires.core in omega arith

pub returns : goal.returns
returns g c =
    let has = has_line c.self.invariant c.self.view_is c.args.core c.args.block c.requires.block c.requires.core _ c.index-cache.ensures in
    let found = c.get.ensures.value ∙ ap (λ (cache : Contents). lookup (nat_eq c.args.block) cache.entries) c.cache.view_is in
    record {
      line = ap line_or_nothing found ∙ has.was;
      proper = rw (found, has.its.read) (c.self.invariant.proper c.args.core c.args.block);
      among = grind (arith, found, has.its.read, among_seen c.self.invariant c.self.view_is c.args.core c.args.block);
    }
