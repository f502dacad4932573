use Rattle.snoop_states.{proofs.Common.{[], ◌≡◌, map, pair, take}, specs.declared.column.Column.TheVariants.Core}
use Rattle.snoop_states.proofs.table.core_columns.Given as goal

-- the columns so far
abbrev pub invariant-loop-core : goal.invariant-loop-core
invariant-loop-core l = map pair l.cells.items ≡ map (λ core. (Core core, [])) (take l.core-index l.cores)
