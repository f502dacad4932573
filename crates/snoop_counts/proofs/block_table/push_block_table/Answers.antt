use Rattle.snoop_counts.proofs.{Common.{◌∙◌, ◌≡◌, ap, append_assoc, blocks_named, IfOk-equal, map, with_requests}, BlockLemmas.shown_are_named}
use Rattle.snoop_counts.specs.ByBlock.{blocks_shown}
use Rattle.snoop_counts.proofs.block_table.push_block_table.Goals as goal

pub returns : goal.returns
returns c seen far =
    let blocks = c.args.shape.blocks in
    let named = rw c.blocks-2.ensures.value at (c.in_ok-named.ensures seen (rw c.blocks-2.ensures.value far)) in
    let shown : c.deref.result.now ≡ blocks_shown c.args.top (map (with_requests seen) (blocks_named blocks seen)) =
    c.deref.ensures.value ∙ c.in_ok-shown.ensures ∙ ap (blocks_shown c.args.top) named in
    IfOk-equal _ _ _ _ (c.push_blocks.ensures seen far (rw shown (shown_are_named seen blocks c.args.top)))
    (rw (c.in_ok-push_header.ensures, shown) (append_assoc c.args.out.now.items _ _))
