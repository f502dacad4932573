use Rattle.snoop_counts.proofs.Common.{happenings, quiet_view, same_view}
use Rattle.snoop_counts.proofs.whole_run.simulate_table.Goals as goal

pub returns-clause-does : goal.returns-clause-does
returns-clause-does g c =
    same_view c.args.protocol c.args.shape _ _
    (λ steps frames final are. quiet_view (λ fs s. g.T.Table.text c.args.table c.args.shape (happenings fs)) frames final) _ _ _ _ _ c.simulate_view.ensures.does
