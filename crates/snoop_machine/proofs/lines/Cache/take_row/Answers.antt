use Rattle.snoop_machine.proofs.Common.{rules, Cell, line_in, arith, common_steps}
use Rattle.snoop_machine.proofs.lines.Cache.take_row.Goals as goal

pub returns-then-eq-clause-row : goal.returns-then-eq-clause-row
returns-then-eq-clause-row g c = (c.in-Some-cache_cell.cell.action, search rules)

pub returns-then-matches-clause-wrote : goal.returns-then-matches-clause-wrote
returns-then-matches-clause-wrote g c =
    let row : Cell c.args.protocol (line_in c.args.self.now c.args.block).state c.args.event c.in-Some-cache_cell.cell.action c.in-Some-cache_cell.cell.next = search rules in
    let proper = c.requires.lands _ _ row in
    record {
      here = grind (arith, common_steps, proper);
      others = grind (arith, common_steps);
      stays = grind (arith, common_steps);
      taken = grind (arith, common_steps);
      fewer = grind (arith, common_steps);
      room = grind (arith, common_steps);
    }
