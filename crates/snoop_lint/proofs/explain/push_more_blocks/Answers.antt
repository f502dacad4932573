use Rattle.std.{proofs.{Common.{◌≡◌, true, append_assoc, arith}, lemmas.Result.IfOk-equal}, specs.Prelude.nat_lt}
use Rattle.snoop_lint.{specs.Explained.more_blocks, proofs.Common.nat_tests}
use Rattle.snoop_lint.proofs.explain.push_more_blocks.Goals as goal

pub returns-in_ok-push_numbered : goal.returns-in_ok-push_numbered
unfolding more_blocks
returns-in_ok-push_numbered c =
    let room : nat_lt c.args.block 65536 ≡ true = grind (arith, nat_tests) in
    rw room (IfOk-equal _ _ _ _ c.push_text.ensures.ok (rw c.in_ok-push_numbered.ensures.ok (simp append_assoc)))
