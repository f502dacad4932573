use Rattle.std.proofs.Common.{◌≡◌, ◌++◌, take, flat_map}
use Rattle.snoop_draw.specs.Rows.{core_text}
use Rattle.snoop_draw.proofs.row.push_cores.Given as goal

-- the pieces so far
abbrev pub invariant-loop-core : goal.invariant-loop-core
invariant-loop-core l = l.out.items ≡ l.fn.out.items ++ flat_map (core_text l.style l.machine.situation l.moment.block l.moment.event l.moment.sender l.moment.lines.now) (take l.core-index l.cores)
