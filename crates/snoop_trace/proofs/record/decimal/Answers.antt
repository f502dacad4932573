use Rattle.std.proofs.Common.{◌<◌, arith, rules}
use Rattle.snoop_trace.proofs.NumeralLemmas.{few_digits}
use Rattle.snoop_trace.proofs.record.decimal.Goals as goal

pub overflow_mul-value : goal.overflow_mul-value
overflow_mul-value c =
    omega (arith, few_digits c.loop-byte.value c.loop-byte.byte-index c.loop-byte.invariant.1 (omega arith))

pub overflow_add-value : goal.overflow_add-value
overflow_add-value c =
    let digit : c.in_ok-digit.digit < 10 = search rules in
    omega (arith, few_digits c.loop-byte.value c.loop-byte.byte-index c.loop-byte.invariant.1 (omega arith))
