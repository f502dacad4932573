use Rattle.snoop_engine.proofs.{Common.◌≡◌, Common.◌∙◌, Common.{rules, false, sym, append-nil, is_some, waiting_request}, Inside.none_placed}
use Rattle.snoop_engine.proofs.taken_text.push_place_in.Goals as goal

pub returns-in-Some : goal.returns-in-Some
returns-in-Some c =
    let s = c.args.machine.now.situation in
    let idle : is_some (waiting_request c.in-Some.state) ≡ false = (let a = c.waits.ensures in let b = c.if-not-waits.true in search rules) in
    rw (none_placed s c.args.core c.args.block c.in-Some.state (sym c.in-Some.is ∙ c.requires) (c.coherent.ensures.coherent.queued c.args.core c.args.block) idle) (sym (append-nil c.args.out.now.items))
