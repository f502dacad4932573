use Rattle.std.proofs.{Common.{ap, ◌++◌, ◌∙◌}, lemmas.Result.on_ok_weaker}
use Rattle.snoop_model.specs.Pictures.Situation.{picture_of}
use Rattle.snoop_draw.specs.Rows.{moment_text, sender_in}
use Rattle.snoop_draw.proofs.row.push_panel.Goals as goal

pub returns : goal.returns
returns c =
    let s = c.args.machine.now.situation in
    let block = c.block-block.ensures in
    let sender = c.sender_in.ensures ∙ ap sender_in (c.open.ensures.value ∙ ap (λ b. (picture_of s b).transaction) block) in
    on_ok_weaker c.push_moment.result
    (λ e. e ∙ (λ i. c.args.out.now.items ++ moment_text c.args.style s (block i) c.args.event (sender i) c.args.lines.now (c.cores.ensures i)))
    c.push_moment.ensures
