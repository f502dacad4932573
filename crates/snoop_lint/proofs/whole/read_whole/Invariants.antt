use Rattle.std.{proofs.Common.{◌≡◌, Some}, specs.{Prelude.false, Io.KnownBytes.Consumes}}
use Rattle.snoop_lint.proofs.whole.read_whole.Given as goal

-- what was read stands in the text, and no read has failed
abbrev pub invariant-loop : goal.invariant-loop
invariant-loop g l = Consumes (g.R.Read.remaining l.fn.reader) (g.R.Read.remaining l.reader) l.text.items
    × (g.R.Source.failed l.fn.reader ≡ Some false → g.R.Source.failed l.reader ≡ Some false)
