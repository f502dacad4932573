use Rattle.std.proofs.Common.{◌%◌}
use Rattle.snoop_counts.proofs.{Common.{[], arith, non_zero_u64_get, on_ok_weaker, refl}, LastLemmas.seen_last_none}
use Rattle.snoop_counts.proofs.by_steps.ByStepsView.begin.Goals as goal

pub returns-clause-begins : goal.returns-clause-begins
returns-clause-begins c =
    on_ok_weaker c.push_header.result
    (λ text. record {
      every = refl;
      steps = refl;
      watched = c.new.ensures _ _;
      counted = rw (seen_last_none (0 % non_zero_u64_get c.args.self.now.every) [] (omega arith)) c.in_ok-new.ensures;
    })
    c.push_header.ensures
