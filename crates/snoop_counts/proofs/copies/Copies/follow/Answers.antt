use Rattle.snoop_counts.proofs.{Common.on_ok_weaker, LastLemmas.follows_more}
use Rattle.snoop_counts.proofs.copies.Copies.follow.Goals as goal

pub returns : goal.returns
returns c frames frame far number lines operation =
    on_ok_weaker c.add_operation.result
    (λ stores. follows_more frames frame c.args.number c.args.lines.now c.args.operation c.args.self.now c.add_lines.new.self c.add_operation.new.self far number lines operation c.in_ok-add_lines.ensures stores)
    c.add_operation.ensures
