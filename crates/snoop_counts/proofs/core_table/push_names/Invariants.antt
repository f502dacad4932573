use Rattle.snoop_counts.{proofs.Common.{◌++◌, ◌≡◌, take}, specs.CoreTable.name_fields}
use Rattle.snoop_counts.proofs.core_table.push_names.Given as goal

-- the names so far
abbrev pub invariant-loop-count : goal.invariant-loop-count
invariant-loop-count l = l.out.items ≡ l.fn.out.items ++ name_fields (take l.count-index l.counts)
