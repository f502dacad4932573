use Rattle.snoop_engine.proofs.{Common.◌++◌, Common.◌∙◌, Common.{[], ℕ, List, ap, append-nil, header_text, shown_text}, ShownLemmas.same_view, ViewLemmas.shown_numbered}
use Rattle.snoop_engine.proofs.states.simulate_states.Goals as goal

pub returns-clause-does : goal.returns-clause-does
returns-clause-does g c =
    same_view c.args.protocol c.args.shape _ _
    (λ steps frames final are. append-nil _ ∙ ap (λ (t : List ℕ). header_text ++ t) (shown_numbered (shown_text c.args.shape c.args.choice) [] frames)) _ _ _ _ _ c.simulate_view.ensures.does
