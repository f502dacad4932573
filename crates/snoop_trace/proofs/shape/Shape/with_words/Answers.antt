use Rattle.std.proofs.Common.{rules, inl, inr}
use Rattle.snoop_trace.proofs.PowerLemmas.{is_power, no_power}
use Rattle.snoop_trace.proofs.shape.Shape.with_words.Goals as goal

pub returns-then-not-is_power_of_two-clause-bad_bytes : goal.returns-then-not-is_power_of_two-clause-bad_bytes
returns-then-not-is_power_of_two-clause-bad_bytes c = elim c.then-not-is_power_of_two.either [ inl h ↦ search (rules, no_power, h) | inr h ↦ search (rules, h) ]

pub returns-then-not-is_power_of_two-2-clause-bad_words : goal.returns-then-not-is_power_of_two-2-clause-bad_words
returns-then-not-is_power_of_two-2-clause-bad_words c = elim c.then-not-is_power_of_two-2.either [ inl h ↦ search (rules, is_power, no_power, h) | inr h ↦ search (rules, is_power, h) ]
