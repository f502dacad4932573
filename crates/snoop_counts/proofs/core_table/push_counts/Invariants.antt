use Rattle.snoop_counts.{proofs.Common.{◌++◌, ◌≡◌, counter_in, take}, specs.CoreTable.count_fields}
use Rattle.snoop_counts.proofs.core_table.push_counts.Given as goal

-- the fields so far
abbrev pub invariant-loop-count : goal.invariant-loop-count
invariant-loop-count l = l.out.items ≡ l.fn.out.items ++ count_fields (take l.count-index l.counts) (counter_in l.row)
