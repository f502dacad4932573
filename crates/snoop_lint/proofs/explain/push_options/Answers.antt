use Rattle.std.proofs.{Common.append_assoc, lemmas.Result.IfOk-equal}
use Rattle.snoop_lint.specs.Explained.{options}
use Rattle.snoop_lint.proofs.explain.push_options.Goals as goal

pub returns : goal.returns
unfolding options
returns c =
    IfOk-equal _ _ _ _ c.push_numbered-4.ensures.ok
    (rw (
      c.in_ok-push_numbered-3.ensures.ok,
      c.in_ok-push_numbered-2.ensures.ok,
      c.in_ok-push_numbered.ensures.ok,
      c.in_ok-push_bytes.ensures,
      c.in_ok-push_text.ensures.ok,
    ) (simp append_assoc))
