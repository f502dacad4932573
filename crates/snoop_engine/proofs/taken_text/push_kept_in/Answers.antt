use Rattle.snoop_engine.proofs.{Common.◌≡◌, Common.◌∙◌, Common.{rules, false, sym, append-nil, keeps}, Inside.none_kept}
use Rattle.snoop_engine.proofs.taken_text.push_kept_in.Goals as goal

pub returns-in-Some : goal.returns-in-Some
returns-in-Some c =
    let s = c.args.machine.now.situation in
    let hidden : keeps c.in-Some.state ≡ false = (let a = c.keeps.ensures in let b = c.if-not-keeps.true in search rules) in
    rw (none_kept s c.args.core c.args.block c.in-Some.state (sym c.in-Some.is ∙ c.requires) (c.coherent.ensures.kept_where_readable c.args.core c.args.block) hidden) (sym (append-nil c.args.out.now.items))
