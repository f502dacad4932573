use Rattle.snoop_counts.{proofs.{Common.{◌<◌, append_assoc, arith, counted_of, IfOk-equal, rules}, BlockLemmas.fields_are}, specs.BySteps.machine_counts}
use Rattle.snoop_counts.specs.declared.count.Subjects.TheVariants.{Machine}
use Rattle.snoop_counts.proofs.by_steps.push_steps.Goals as goal

pub returns-in_ok-push_counts-in-Some : goal.returns-in_ok-push_counts-in-Some
returns-in_ok-push_counts-in-Some c seen far =
    let there : 0 < 1 = omega arith in
    let fields = fields_are c.in-Some.row (counted_of Machine seen 0) (c.in-Some.ensures Machine 1 seen far there) machine_counts in
    search (rules, append_assoc, IfOk-equal)
