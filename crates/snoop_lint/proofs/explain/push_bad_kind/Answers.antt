use Rattle.std.proofs.{Common.append_assoc, lemmas.Result.IfOk-equal}
use Rattle.snoop_lint.specs.Explained.{bad_kind}
use Rattle.snoop_lint.proofs.explain.push_bad_kind.Goals as goal

pub returns : goal.returns
unfolding bad_kind
returns c =
    IfOk-equal _ _ _ _ c.push_text-4.ensures.ok
    (rw (
      c.kind_hint.ensures,
      c.in_ok-push_text-3.ensures.ok,
      c.in_ok-push_text-2.ensures.ok,
      c.in_ok-push_text.ensures.ok,
      c.in_ok-push_shown.ensures,
      c.kinds.ensures,
      c.may_be_names.ensures,
      c.len.ensures,
      c.field-kind.ensures,
    ) (simp append_assoc))
