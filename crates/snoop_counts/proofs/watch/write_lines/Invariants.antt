use Rattle.snoop_counts.{proofs.Common.{◌≡◌, cause_of, Frame, List, map, take}, specs.{LastSteps.KnowsLastSteps, declared.count.Happening.TheVariants.Line}}
use Rattle.snoop_counts.proofs.watch.write_lines.Given as goal

-- the lines so far
abbrev pub invariant-loop-line : goal.invariant-loop-line
invariant-loop-line l = (frames : List Frame) → KnowsLastSteps frames l.copies → l.all.items ≡ map (λ line. Line l.step l.outcome line (cause_of frames l.operation line)) (take l.line-index l.lines)
