use Rattle.std.proofs.{Common.{◌≡◌, ◌++◌, ◌≤◌, ℕ, List, ap, arith, length, map, rules, sym, take}, lemmas.List.take_all}
use Rattle.snoop_history.proofs.Common.{Item, append-nil, block_text, blocks_text, flat, range_with_len, report_of, totals_text}
use Rattle.snoop_history.specs.Totals.{totals_of, touched}
use Rattle.{snoop_rules.proofs.TextLemmas.piece_more, snoop_trace.proofs.OutputLemmas.appends_none_of}
use Rattle.snoop_history.proofs.report.write_report.Goals as goal

pub loop-block-init : goal.loop-block-init
loop-block-init g c = rw append-nil (rw c.new-report.ensures.items at c.in_ok-push_totals.ensures)

pub loop-block-preserved : goal.loop-block-preserved
loop-block-preserved g c =
    let log = c.args.log.now in
    let blocks = sym c.touched-block-items.ensures.value in
    rw blocks (piece_more (λ block. block_text block (map (flat log.items block) (range_with_len 0 log.words))) c.touched-block-items.result.now c.loop-block.block-index 0
    (totals_text (totals_of log.items)) c.loop-block.report.items c.push_block.new.out.items c.loop-block-test.true (rw blocks at c.loop-block.invariant) c.in_ok-push_block.ensures)

pub returns-in_err-push_totals-clause-front : goal.returns-in_err-push_totals-clause-front
returns-in_err-push_totals-clause-front g c = search (rules, appends_none_of)

pub returns-in_err-push_block-clause-front : goal.returns-in_err-push_block-clause-front
returns-in_err-push_block-clause-front g c = search (rules, appends_none_of)

-- after the last block the report is whole
whole : (words : ℕ) (items : List Item) (i : ℕ) {now blocks : List ℕ} → blocks ≡ touched items → length blocks ≤ i →
    now ≡ totals_text (totals_of items) ++ blocks_text words items (take i (touched items)) → now ≡ report_of words items
whole words items i is past told =
    let all : length (touched items) ≤ i = omega (arith, ap length is) in
    rw take_all at told

pub returns-clause-ok : goal.returns-clause-ok
returns-clause-ok g c = rw (c.deref.ensures.value, whole _ _ _ c.touched-block-items.ensures.value c.loop-block-test.false c.loop-block.invariant) at c.write_whole.ensures.ok

pub returns-clause-front : goal.returns-clause-front
returns-clause-front g c = rw (c.deref.ensures.value, whole _ _ _ c.touched-block-items.ensures.value c.loop-block-test.false c.loop-block.invariant) at c.write_whole.ensures.front
