use Rattle.std.proofs.Common.{◌≡◌, ◌<◌, ◌^◌, drop}
use Rattle.snoop_trace.{proofs.NumeralLemmas.numeral_after, specs.Grammar.numeral}
use Rattle.snoop_trace.proofs.record.decimal.Given as goal

abbrev pub invariant-loop-byte : goal.invariant-loop-byte
invariant-loop-byte l = (numeral 10 l.digits ≡ numeral_after 10 l.value (drop l.byte-index l.digits)) × (l.value < 10 ^ l.byte-index)
