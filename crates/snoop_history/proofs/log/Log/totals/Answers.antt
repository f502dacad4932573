use Rattle.std.proofs.Common.{ap, arith, map, ◌∙◌}
use Rattle.snoop_history.specs.{declared.log.Log.TheInside.Inside, Board.Tables}
use Rattle.snoop_history.proofs.{Common.{length-map, unpacked}, Pushed.totals-few}
use Rattle.snoop_history.proofs.log.Log.totals.Goals as goal

pub returns : goal.returns
returns c =
    let packed = c.self.inside.items in
    let few = totals-few (map unpacked packed.items) (omega (arith, length-map packed.items unpacked, packed.ok.0)) in
    let tallied = ap (λ (l : Inside). l.board.totals) c.self-inside.view_is ∙ ap (λ (b : Tables). b.totals) c.self.invariant.kept.tallied in
    rw (← c.self.view_is) (tallied ∙ few)
