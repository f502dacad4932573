use Rattle.snoop_engine.proofs.Common.{arith, rules, ◌≡◌, ◌∷◌, sym, subst, common_steps, Step, IsEnabled}
use Rattle.snoop_engine.proofs.InOrderLemmas.{asks_row, begun_enabled, begun_fit, begun_takes_up}
use Rattle.snoop_engine.proofs.serial_driver.SerialDriver.begun.Goals as goal

pub invariant_of-self : goal.invariant_of-self
invariant_of-self c =
    let a = c.in_ok-row.ensures.cases in
    let b = c.in_ok-row.is in
    begun_fit c.self.invariant (rw (← c.self.view_is) at c.requires) c.in_ok-row.row.now c.in_ok-row.rest.now (search rules)

pub returns : goal.returns
returns c =
    let s = c.self.inside.machine.situation in
    let row = c.in_ok-row.row.now in
    let a = c.in_ok-row.ensures.cases in
    let b = c.in_ok-row.is in
    let first : c.self.inside.rows.now ≡ row ∷ c.in_ok-row.rest.now = search rules in
    let serves = rw (← c.self.view_is) at c.requires in
    let within = (begun_fit c.self.invariant serves row c.in_ok-row.rest.now first).begun in
    let asks = asks_row s.shape row within _ _ _ (rw c.shape-shape.ensures at c.block_of.ensures) c.unwrap-block.ensures (rw c.shape-shape.ensures at c.word_asked-word.ensures) in
    record {
      machine = search rules;
      takes_up = rw (← c.self.view_is, asks) (begun_takes_up c.self.invariant serves row c.in_ok-row.rest.now first);
      under_way = grind (arith, common_steps);
      enabled = subst (λ (step : Step). IsEnabled s step) (sym asks) (begun_enabled c.self.invariant serves row c.in_ok-row.rest.now first);
      done = search rules;
    }
