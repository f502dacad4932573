use Rattle.snoop_machine.proofs.Common.{◌≡◌, ◌<◌, length, arith, length-set, row_of, line_at, IsProper-order, Taking, Taking-more, Taking-past}
use Rattle.snoop_machine.proofs.{PartsViews.{WritesRow-more, row_after}, lines.Lines.take_rows.Goals.In-Some}
use Rattle.snoop_machine.proofs.ConcernedCores.{concerned_within, TakesRow-passed, Cell-leaves}
use Rattle.snoop_machine.proofs.lines.Lines.take_rows.Goals as goal

within_row : (g : _) (c : In-Some g) → c.in-Some.core < length (row_of c.args.self.now.rows c.args.block)
within_row g c = concerned_within c.concerned-concerned.ensures.concerned c.requires.requestor c.in-Some.core c.in-Some.ensures.some.2

-- the cores up to the one that is looked at have taken their rows
so_far : (g : _) (c : In-Some g) → Taking c.args.protocol c.args.requestor c.args.request (row_of c.args.self.now.rows c.args.block) (row_of c.loop-core.self.rows c.args.block) c.in-Some.core
so_far g c =
    let within = within_row g c in
    Taking-past c.args.protocol c.args.requestor c.args.request _ _ c.loop-core.from c.in-Some.core
    (λ k above below. TakesRow-passed c.concerned-concerned.ensures.concerned c.args.protocol c.requires.rows k (omega arith)
    (c.in-Some.ensures.some.3 k above below) (c.concerned-concerned.ensures.proper k))
    c.in-Some.ensures.some.0 c.loop-core.invariant.0

in_blocks : (g : _) (c : In-Some g) → c.args.block < length c.loop-core.self.rows
in_blocks g c = rw (c.loop-core.invariant.2.rows, length-set c.args.self.now.rows c.args.block (row_of c.loop-core.self.rows c.args.block)) c.requires.block

-- the line that is looked at is the one that stood there at first
first_line : (g : _) (c : In-Some g) → line_at c.loop-core.self.rows c.in-Some.core c.args.block ≡ line_at c.args.self.now.rows c.in-Some.core c.args.block
first_line g c = (so_far g c).left c.in-Some.core (omega arith)

pub take_row-requires : goal.take_row-requires
take_row-requires g c =
    let d = (goal.at.take_row-requires g c).In-Some in
    record {
      block = in_blocks g d;
      core = rw c.loop-core.invariant.0.same_length (within_row g d);
      row = rw (c.event_seen.ensures, first_line g d) (c.requires.rows c.in-Some.core (within_row g d));
      lands = λ action next cell. rw (first_line g d) (IsProper-order c.args.protocol _ c.in-Some.core c.args.requestor c.args.request action next
          (c.concerned-concerned.ensures.proper c.in-Some.core) (rw (c.event_seen.ensures, first_line g d) at cell));
      absent = λ action next cell. Cell-leaves c.args.protocol c.in-Some.core c.args.requestor c.args.request action next (rw c.event_seen.ensures at cell);
    }

pub loop-core-preserved : goal.loop-core-preserved
loop-core-preserved g c =
    let d = (goal.at.loop-core-preserved g c).In-Some in
    let first = c.args.self.now in
    let now = c.loop-core.self in
    let block = c.args.block in
    let old = row_of first.rows block in
    let before = c.loop-core.invariant in
    let took = c.take_row.ensures in
    let wrote = took.wrote in
    let within : c.in-Some.core < length old = within_row g d in
    let in_rows = in_blocks g d in
    let found = rw c.event_seen.ensures at took.row in
    let after = row_after wrote in_rows in (
      Taking-more c.args.protocol c.args.requestor c.args.request old (row_of now.rows block)
          (row_of c.take_row.new.self.rows block) c.in-Some.core took.action took.next within (so_far g d) found after,
      omega arith,
      WritesRow-more wrote in_rows first before.2 (rw before.0.same_length within) (first_line g d),
    )

pub returns-clause-taken : goal.returns-clause-taken
returns-clause-taken g c =
    let before = c.loop-core.invariant.0 in
    let old = row_of c.args.self.now.rows c.args.block in
    let taking = Taking-past c.args.protocol c.args.requestor c.args.request old (row_of c.loop-core.self.rows c.args.block) c.loop-core.from (length old)
    (λ k above below. TakesRow-passed c.concerned-concerned.ensures.concerned c.args.protocol c.requires.rows k below
    (c.in_default.ensures.none k above) (c.concerned-concerned.ensures.proper k))
    c.loop-core.invariant.1 before in
    record { same_length = before.same_length; rows = taking.taken }

pub loop-core-smaller : goal.loop-core-smaller
loop-core-smaller g c = omega (arith, within_row g (goal.at.loop-core-smaller g c).In-Some, c.in-Some.ensures.some.0)
