use Rattle.snoop_counts.{proofs.Common.{◌++◌, ◌≡◌, Cores, flat_map, Happening, HasCounted, List, range_with_len}, specs.CoreTable.core_line}
use Rattle.snoop_counts.proofs.core_table.push_cores.Given as goal

-- the lines so far
abbrev pub invariant-loop-core : goal.invariant-loop-core
invariant-loop-core l = (seen : List Happening) → HasCounted Cores l.cores seen l.tally → l.out.items ≡ l.fn.out.items ++ flat_map (core_line seen) (range_with_len 0 l.core)
