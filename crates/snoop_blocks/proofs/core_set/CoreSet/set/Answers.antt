use Rattle.std.{proofs.Common.{ℕ, ◌<◌, ◌/◌, ◌%◌, ◌^◌, ◌*◌, refl, arith, w64}, specs.{Prelude.{slice_index_or, bit_and, bit_or}, Int.bit_not}}
use Rattle.std.proofs.lemmas.Nat.Bits.{bit_at_set_same, bit_at_set_other, bit_at_clear_same, bit_at_clear_other}
use Rattle.snoop_blocks.proofs.{CoreSets.{has-set_here, has-set_other}, core_set.CoreSet.set.Goals.{then-is_member, else-is_member}}
use Rattle.snoop_blocks.proofs.core_set.CoreSet.set.Goals as goal

pub returns : goal.returns
returns c =
    let words = c.self.inside.words in
    let core = c.args.core in
    let bit : ℕ = core % 64 in
    let word : ℕ = slice_index_or words (core / 64) 0 in
    let small : bit < 64 = omega arith in
    rw (← c.self.view_is) (elim c.if-is_member.branch [
      | then-is_member w ↦
          let new = bit_or word (1 * 2 ^ bit % 2 ^ 64) in
          rw w.self-inside-is record {
            here = rw (has-set_here words core new c.self.invariant c.requires, bit_at_set_same w64 word bit small, w.if-is_member.true) refl;
            others = has-set_other words core new c.self.invariant c.requires (λ i _ ne. bit_at_set_other w64 word bit small i ne);
          }
      | else-is_member w ↦
          let new = bit_and word (bit_not w64 (1 * 2 ^ bit % 2 ^ 64)) in
          rw w.self-inside-is record {
            here = rw (has-set_here words core new c.self.invariant c.requires, bit_at_clear_same w64 word bit small, w.if-is_member.false) refl;
            others = has-set_other words core new c.self.invariant c.requires (bit_at_clear_other w64 word bit small);
          }
    ])
