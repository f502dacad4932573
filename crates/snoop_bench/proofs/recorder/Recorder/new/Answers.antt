use Rattle.snoop_bench.proofs.Common.{All, All-nil, IsReadableStep, List, rules, Step, subst, sym}
use Rattle.snoop_bench.proofs.recorder.Recorder.new.Goals as goal

pub invariant_of-result : goal.invariant_of-result
invariant_of-result c =
    let shape = c.in_ok-machine.machine.situation.shape in
    record {
      recorded = record {
        run = search rules;
        readable = subst (λ (l : List Step). All (IsReadableStep shape) l) (sym c.new-2.ensures.items) (All-nil (IsReadableStep shape));
        published = search rules;
      };
      ready = search rules;
      shape = search rules;
    }
