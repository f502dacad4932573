use Rattle.std.proofs.{Common.{ℕ, List, ◌++◌, ap, ◌∙◌}, lemmas.List.drop-replicate}
use Rattle.snoop_trace.proofs.words.FewBlock.to_words.Goals as goal

-- the words that the block has, and behind them the zeros that were there
pub returns-clause-value : goal.returns-clause-value
returns-clause-value g c =
    ap (λ (l : List ℕ). l ++ _) c.copy_from_slice.ensures.after
    ∙ (ap (λ (l : List ℕ). c.self.inside.values ++ l) (drop-replicate g.row.N 64 0) ∙ c.self.view_is)
