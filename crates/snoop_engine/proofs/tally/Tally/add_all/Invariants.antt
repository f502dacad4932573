use Rattle.snoop_engine.proofs.Common.{List, ◌++◌, take, Tallies, Taken}
use Rattle.snoop_engine.proofs.tally.Tally.add_all.Given as goal

-- the lines so far are counted
abbrev pub invariant-loop-line : goal.invariant-loop-line
invariant-loop-line l = (lines : List Taken) → Tallies l.fn.self.counters lines → Tallies l.self.counters (lines ++ take l.line-index l.more)
