use Rattle.std.proofs.Common.{◌≡◌, ◌+◌, ◌*◌, ◌<◌, ◌^◌, ◌++◌, drop, length}
use Rattle.snoop_svg.specs.Layout.{after_lanes, lanes_from}
use Rattle.snoop_svg.proofs.columns.add_lanes.Given as goal

-- what is left follows the lanes so far
abbrev pub invariant-loop-core : goal.invariant-loop-core
invariant-loop-core l = record {
  columns : l.columns.items ++ lanes_from l.sizes l.block l.start l.x (drop l.core-index l.cores) ≡ l.fn.columns.items ++ lanes_from l.sizes l.block l.start l.start l.cores;
  next : after_lanes l.sizes l.x (drop l.core-index l.cores) ≡ after_lanes l.sizes l.start l.cores;
  room : l.x + 12000 * length (drop l.core-index l.cores) < 2 ^ 32;
}
