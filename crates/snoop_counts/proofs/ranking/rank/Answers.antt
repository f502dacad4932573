use Rattle.std.proofs.lemmas.List.Sorted.{answers_always}
use Rattle.snoop_counts.proofs.{Common.rules, BlockLemmas.{goes_before, order, sorted_is_ranked}}
use Rattle.snoop_counts.proofs.ranking.rank.Goals as goal

pub returns-in-Ok : goal.returns-in-Ok
returns-in-Ok c =
    let compares = answers_always _ _ _ (λ f a r g h. search rules) in
    sorted_is_ranked c.args.blocks.now.items c.sort_by.new.self.items (c.in-Ok.ensures.sorted goes_before order compares) (c.sort_by.ensures.stable goes_before order compares)
