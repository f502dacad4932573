use Rattle.snoop_engine.proofs.{Common.frames_counts_text, ViewLemmas.quiet_view, ShownLemmas.same_view}
use Rattle.snoop_engine.proofs.counts.simulate_counts.Goals as goal

pub returns-clause-does : goal.returns-clause-does
returns-clause-does g c =
    same_view c.args.protocol c.args.shape _ _ (λ steps frames final are. quiet_view (λ frames final. frames_counts_text c.args.protocol frames) frames final) _ _ _ _ _ c.simulate_view.ensures.does
