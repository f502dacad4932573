use Rattle.snoop_engine.proofs.Common.{◌≡◌, ◌++◌, ◌≤◌, ◌-◌, flat_map, range_with_len, AreOthersInI, of_holder}
use Rattle.snoop_engine.proofs.taken.add_holders.Given as goal

-- the lines of the cores so far; the others of the block are in I
abbrev pub invariant-loop-core : goal.invariant-loop-core
invariant-loop-core l =
    (l.lines.items ≡ l.fn.lines.items ++ flat_map (of_holder l.machine.situation l.requestor l.block l.request) (range_with_len 0 l.from))
    × AreOthersInI l.machine.situation l.block l.cores × (l.from ≤ 256)

abbrev pub decreases-loop-core : goal.decreases-loop-core
decreases-loop-core l = 256 - l.from
