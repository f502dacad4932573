use Rattle.std.proofs.{Common.{append_assoc, sym, ◌∙◌}, lemmas.Result.IfOk-equal}
use Rattle.snoop_lint.specs.Summary.{needs_line}
use Rattle.snoop_lint.proofs.summary.push_needs_line.Goals as goal

pub returns-in_ok-push_numbered-2 : goal.returns-in_ok-push_numbered-2
unfolding needs_line
returns-in_ok-push_numbered-2 c =
    IfOk-equal _ _ _ _ c.push_text.ensures.ok
    (rw (sym c.can_be_taken.ensures.value ∙ c.if-can_be_taken.true, c.in_ok-push_numbered-2.ensures.ok, c.in_ok-push_numbered.ensures.ok) (simp append_assoc))
