use Rattle.snoop_engine.proofs.{Common.[], Common.on_err, Completing.listed_can_end, ShownLemmas.begins_nothing}
use Rattle.snoop_engine.proofs.show.show_script.Goals as goal

pub returns-in_err-machine-clause-front : goal.returns-in_err-machine-clause-front
returns-in_err-machine-clause-front g c =
    on_err c.from_residual.result _ (begins_nothing c.args.protocol c.args.shape _ _ _ (g.S.Script.steps c.args.script) (g.W.Write.contents c.args.writer.now))

pub show-requires-clause-can_end : goal.show-requires-clause-can_end
show-requires-clause-can_end g c = listed_can_end (g.S.Script.steps c.args.script) c.in_ok-machine.machine.situation c.args.protocol c.args.shape [] [] c.in_ok-machine.ensures.at_reset
