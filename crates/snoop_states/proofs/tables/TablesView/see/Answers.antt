use Rattle.snoop_engine.specs.Views.{frame_seen}
use Rattle.snoop_states.proofs.Common.{append-nil, columns_in, on_ok_weaker, refl, sym}
use Rattle.snoop_states.proofs.tables.TablesView.see.Goals as goal

pub returns : goal.returns
returns c first frames before has next =
    let s = c.args.machine.now.situation in
    on_ok_weaker c.show_step.result
    (λ are. (record { choice = has.choice; widths = has.widths; tables = are }, sym (append-nil c.args._out.now.items)))
    (c.show_step.ensures s.protocol (columns_in first.askers) frames (frame_seen before c.args.seen s) refl refl refl next.number next.block has.tables)
