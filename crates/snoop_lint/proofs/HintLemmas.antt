-- The first hint of some fields, field by field.
use Rattle.std.{proofs.Common.{◌≡◌, ℕ, ◌+◌, ◌<◌, List, [], arith, cond, drop, length}, specs.Prelude.◌==◌}
use Rattle.std.proofs.lemmas.{Bool.Decides.nat_tests, List.at_drop_more}
use Rattle.csv.proofs.RecordFacts.{field-get, field-there}
use Rattle.snoop_lint.specs.{Fields.field, Hints.{field_hint, fields_hint}}

-- the hint of the next field, or else of those after it
pub next_hint : (fields : List (List ℕ)) (i : ℕ) → i < length fields
    → fields_hint (drop i fields) ≡ cond (length (field_hint (field fields i)) == 0) (fields_hint (drop (i + 1) fields)) (field_hint (field fields i))
unfolding fields_hint
next_hint fields i h = grind (arith, nat_tests, at_drop_more fields_hint fields i [] h, field-get fields i, field-there fields i h)
