use Rattle.std.proofs.{Common.{◌≡◌, arith, append_assoc}, lemmas.List.FromFn.map-range_with_len_more}
use Rattle.snoop_history.proofs.Common.{append-nil, flat, flat_map-append, nat_tests}
use Rattle.snoop_history.proofs.report.push_block.Goals as goal

pub loop-word-preserved : goal.loop-word-preserved
loop-word-preserved c =
    let log = c.args.log.now in
    let word = c.loop-word.word in
    let values = flat log.items c.args.block in
    let value : c.unwrap.result ≡ values word = grind (arith, nat_tests) in
    rw (c.in_ok-push_numbered-2.ensures.ok, c.loop-word.invariant, value, map-range_with_len_more values 0 word word (omega arith))
    (simp (flat_map-append, append_assoc, append-nil))
