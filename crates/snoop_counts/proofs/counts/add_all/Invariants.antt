use Rattle.snoop_counts.proofs.Common.{◌++◌, Happening, List, take}
use Rattle.snoop_counts.proofs.counts.add_all.Given as goal

-- those so far are counted
abbrev pub invariant-loop-happening : goal.invariant-loop-happening
invariant-loop-happening g l = (whose : g.C.Counts.Of) (seen : List Happening) → g.C.Counts.has_counted whose seen l.fn.counts → g.C.Counts.has_counted whose (seen ++ take l.happening-index l.happenings) l.counts
