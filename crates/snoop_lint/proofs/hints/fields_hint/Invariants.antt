use Rattle.std.proofs.Common.{◌≡◌, drop}
use Rattle.csv.specs.Records.{fields_of}
use Rattle.snoop_lint.specs.Hints.{fields_hint}
use Rattle.snoop_lint.proofs.hints.fields_hint.Given as goal

-- no field so far has a hint
abbrev pub invariant-loop-i : goal.invariant-loop-i
invariant-loop-i l = fields_hint (fields_of l.fields) ≡ fields_hint (drop l.i (fields_of l.fields))
