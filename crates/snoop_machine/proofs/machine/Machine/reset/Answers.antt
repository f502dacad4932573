use Rattle.snoop_machine.proofs.Common.{◌≡◌, ℕ, ◌≤◌, ◌⊎◌, inl, inr, arith, zero, suc, common_steps, sym, subst, MachineKeeps, stand, reset_keeps, is_safe}
use Rattle.std.{specs.Int.IsPowerOfTwo, proofs.{lemmas.Nat.pow_pos, Math.Nat.pow-suc}}
use Rattle.snoop_model.specs.Pictures.Situation.{reset}
use Rattle.snoop_machine.proofs.machine.Machine.reset.Goals as goal

-- a power of two up to 64 is one of seven
one_of_seven : (words : ℕ) → IsPowerOfTwo words → words ≤ 64 → (words ≡ 1) ⊎ ((words ≡ 2) ⊎ ((words ≡ 4) ⊎ ((words ≡ 8) ⊎ ((words ≡ 16) ⊎ ((words ≡ 32) ⊎ (words ≡ 64))))))
one_of_seven words (zero, e) few = inl e
one_of_seven words (suc zero, e) few = inr (inl e)
one_of_seven words (suc (suc zero), e) few = inr (inr (inl e))
one_of_seven words (suc (suc (suc zero)), e) few = inr (inr (inr (inl e)))
one_of_seven words (suc (suc (suc (suc zero))), e) few = inr (inr (inr (inr (inl e))))
one_of_seven words (suc (suc (suc (suc (suc zero)))), e) few = inr (inr (inr (inr (inr (inl e)))))
one_of_seven words (suc (suc (suc (suc (suc (suc zero))))), e) few = inr (inr (inr (inr (inr (inr e)))))
one_of_seven words (suc (suc (suc (suc (suc (suc (suc k)))))), e) few =
    let some = pow_pos k in
    absurd (omega (arith, pow-suc 2 k, pow-suc 2 (suc k), pow-suc 2 (suc (suc k)), pow-suc 2 (suc (suc (suc k))), pow-suc 2 (suc (suc (suc (suc k)))), pow-suc 2 (suc (suc (suc (suc (suc k))))), pow-suc 2 (suc (suc (suc (suc (suc (suc k))))))))

pub unreachable-requires : goal.unreachable-requires
unreachable-requires c =
    let seven = one_of_seven c.args.shape.words c.words.ensures.within.0 c.words.ensures.within.1 in
    grind (arith, common_steps)

pub invariant_of-result : goal.invariant_of-result
invariant_of-result c =
    let at_reset : (stand c.match-words.parts).situation ≡ reset c.args.protocol c.args.shape = grind (arith, c.match-words.branch) in
    rw at_reset (reset_keeps c.args.protocol c.args.shape)

pub returns-clause-safe : goal.returns-clause-safe
returns-clause-safe c =
    let at_reset : (stand c.match-words.parts).situation ≡ reset c.args.protocol c.args.shape = grind (arith, c.match-words.branch) in
    is_safe _ (subst MachineKeeps (sym at_reset) (reset_keeps c.args.protocol c.args.shape))
