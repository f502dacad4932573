use Rattle.snoop_counts.proofs.{Common.{◌≡◌, non_zero_u64_get}, LastLemmas.left_line}
use Rattle.snoop_counts.proofs.by_steps.ByStepsView.end.Goals as goal

pub returns-in-Some : goal.returns-in-Some
returns-in-Some c first frames has run =
    let get : c.get.result ≡ non_zero_u64_get first.every = rw has.every at c.get.ensures.value in
    let steps = rw (get, has.steps) at c.if-left-gt0.true in
    rw (← left_line (non_zero_u64_get first.every) frames c.args._machine.now.situation c.first_of.result steps (rw (get, has.steps) at c.first_of.ensures))
    (rw has.steps at (c.push_steps.ensures _ (rw c.in-Some.is at has.counted)))
