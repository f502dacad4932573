use Rattle.csv.specs.Records.{fields_of}
use Rattle.snoop_lint.proofs.LookedLemmas.{looked_all, looked_more}
use Rattle.snoop_lint.proofs.lint.look.Goals as goal

pub returns-then-not-branch : goal.returns-then-not-branch
returns-then-not-branch c =
    let none = rw c.if-not-branch.true at c.in_ok-next_record.ensures.reads in
    let (tally, lines) = looked_all c.next_record.new.records (fields_of c.next_record.new.fields) c.loop-i.invariant.0.config none c.loop-i.invariant.1 in
    record { tally = tally; lines = lines }

pub loop-i-preserved : goal.loop-i-preserved
loop-i-preserved c =
    let read = rw c.if-not-branch.false at c.in_ok-next_record.ensures.reads in
    let more = c.in_ok-tally.ensures in (
      c.in_ok-next_record.ensures.plain c.if-not-branch.false,
      looked_more (fields_of c.next_record.new.fields) c.loop-i.invariant.0.config read c.loop-i.invariant.1 more.line more.counted,
    )
