use Rattle.snoop_states.proofs.Common.{append_assoc, IfOk-equal}
use Rattle.snoop_states.proofs.at_end.push_end.Goals as goal

pub returns : goal.returns
returns c =
    IfOk-equal _ _ _ _ c.push_text-3.ensures.ok
    (rw (c.in_ok-push_still_open.ensures, c.in_ok-push_text-2.ensures.ok, c.in_ok-push_waiting.ensures, c.in_ok-push_text.ensures.ok) (simp append_assoc))
