use Rattle.std.proofs.{Common.append_assoc, lemmas.Result.IfOk-equal}
use Rattle.snoop_lint.specs.Explained.{no_number}
use Rattle.snoop_lint.proofs.explain.push_no_number.Goals as goal

pub returns : goal.returns
unfolding no_number
returns c =
    IfOk-equal _ _ _ _ c.push_text-4.ensures.ok
    (rw (
      c.number_hint.ensures,
      c.in_ok-push_text-3.ensures.ok,
      c.in_ok-push_shown.ensures,
      c.in_ok-push_text-2.ensures.ok,
      c.in_ok-push_text.ensures.ok,
    ) (simp append_assoc))
