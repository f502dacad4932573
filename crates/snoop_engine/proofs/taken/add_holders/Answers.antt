use Rattle.snoop_engine.proofs.{Common.{ℕ, List, arith, of_holder, Taken}, PossibleHolderLemmas.{no_line_in_i, no_line_past}}
use Rattle.snoop_engine.proofs.RangeLemmas.{range_piece, range_same, range_stops}
use Rattle.snoop_engine.proofs.taken.add_holders.Goals as goal

pub loop-core-preserved : goal.loop-core-preserved
loop-core-preserved c =
    let s = c.args.machine.now.situation in
    let found = c.in-Some.ensures.some in
    let f : ℕ → List Taken = of_holder s c.args.requestor c.args.block c.args.request in
    let idle = λ (k : ℕ). no_line_in_i s c.args.requestor c.args.block c.args.request k in
    let between = range_stops f c.loop-core.from c.in-Some.core found.0 (λ k up below. idle k (c.loop-core.invariant.1 k (found.3 k up below))) in (
      range_piece f c.in-Some.core c.args.lines.now.items c.loop-core.lines.items c.add_holder.new.lines.items (rw between c.loop-core.invariant.0) c.in_ok-add_holder.ensures.lines,
      c.add_holder.ensures.others c.loop-core.invariant.1,
      omega arith,
    )

pub returns-clause-lines : goal.returns-clause-lines
returns-clause-lines c =
    let s = c.args.machine.now.situation in
    let none = rw c.in_default.is at c.next.ensures.none in
    let same = range_same (of_holder s c.args.requestor c.args.block c.args.request) c.loop-core.from s.shape.cores
    (λ k up. no_line_in_i s c.args.requestor c.args.block c.args.request k (c.loop-core.invariant.1 k (none k up)))
    (λ k up. no_line_past s c.args.requestor c.args.block c.args.request k up) in
    rw (← same) c.loop-core.invariant.0
