use Rattle.std.proofs.Common.{ℕ, List, Bor, Some}
use Rattle.csv.specs.Reading.{strip_bom}
use Rattle.snoop_trace.specs.Progress.{IsPlain}
use Rattle.snoop_lint.proofs.LookedLemmas.{Looked}
use Rattle.snoop_lint.proofs.lint.look.Given as goal

-- i records were read, and the reader stands after them
abbrev pub invariant-loop-i : goal.invariant-loop-i
invariant-loop-i l = IsPlain l.records
    × Looked l.reading.form l.most l.reading.protocol l.reading.shape l.lines (strip_bom l.text) (λ (s : Bor (List ℕ)). Some s.now) l.records l.fn.out.items l.out.items l.tally l.i
