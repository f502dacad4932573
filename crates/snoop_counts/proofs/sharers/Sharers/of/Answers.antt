use Rattle.std.proofs.lemmas.Option.{get_or_from_slice_get}
use Rattle.snoop_blocks.specs.CoreSet.{has}
use Rattle.snoop_engine.proofs.RangeLemmas.{filter_range}
use Rattle.snoop_counts.{proofs.Common.{[], ◌∙◌, ap, arith, length, sym}, specs.Sharers.is_shared_by}
use Rattle.snoop_counts.proofs.sharers.Sharers.of.Goals as goal

pub returns-in-Some : goal.returns-in-Some
returns-in-Some c whose counted many seen far there few =
    let is = get_or_from_slice_get c.args.self.now.sets c.args.subject c.in-Some.set [] (sym c.get.ensures ∙ c.in-Some.is) in
    c.count.ensures
    ∙ ap length
    (filter_range (has c.in-Some.set) (is_shared_by whose counted seen c.args.subject) 0 c.args.cores
    (λ k up below. rw (← is) (far.marked c.args.subject k there (omega (arith, few, below)))))
