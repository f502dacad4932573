use Rattle.std.{proofs.{Common.{◌≡◌, ◌∙◌, None, sym, ap}, lemmas.Option.unwrap_or-slice_get}, specs.Prelude.{option_copied, unwrap_or}}
use Rattle.snoop_bus.{specs.Traffic.{TrafficOf, transaction_on}, proofs.bus.Bus.opened.{Given.Over, Goals.After-get_ref}}
use Rattle.snoop_bus.proofs.bus.Bus.opened.Goals as goal

-- what stands in the table is what callers see
shown : (g : Over) (c : After-get_ref g) → unwrap_or (option_copied c.get_ref.result) None ≡ transaction_on c.args.self.now c.args.block
shown g c =
    ap (λ o. unwrap_or o None) c.get_ref.ensures
    ∙ (unwrap_or-slice_get c.self.inside.transactions c.args.block None
    ∙ ap (λ (bus : TrafficOf _). transaction_on bus c.args.block) c.self.view_is)

pub returns-in_err-get_ref : goal.returns-in_err-get_ref
returns-in_err-get_ref g c =
    ap option_copied c.from_residual.ensures
    ∙ (sym (ap (λ o. unwrap_or (option_copied o) None) c.in_err-get_ref.was) ∙ shown g (goal.at.returns-in_err-get_ref g c).After-get_ref)

pub returns : goal.returns
returns g c =
    c.as_ref.ensures.value
    ∙ (sym (ap (λ o. unwrap_or (option_copied o) None) c.in_ok-get_ref.was) ∙ shown g (goal.at.returns g c).After-get_ref)
