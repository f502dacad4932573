use Rattle.snoop_machine.proofs.Common.{ℕ, ◌<◌, length, arith, sym, ap, ◌∙◌, Option, Some, None, Payload, free_picture, Sends, IsOnlySender, row_of, memory_line, Silent-none, Silent-more, Silent-past, Silent-all, Protocol, Picture, Request, ◌≤◌}
use Rattle.snoop_model.proofs.Tables.OrderTests.{sends_row, sent_by}
use Rattle.snoop_machine.proofs.ConcernedCores.{concerned_within, waits_within, Cell-passed}
use Rattle.snoop_machine.proofs.lines.Lines.sender.Goals as goal
use Rattle.snoop_machine.proofs.lines.Lines.sender.Goals.{In-Some-next}

-- who sends is the only one that does
sends : {p : Protocol} {x : Picture} {core : ℕ} {q : Request} {first : Option ℕ} {message : Payload} (from : Option ℕ) (payload : Payload)
    → IsOnlySender p x core q first message → Sends p x core q from payload → IsOnlySender p x core q from payload
sends from payload only sent = record { sends = sent; alone = λ other message h. only.alone other message h ∙ sym (only.alone from payload sent) }

pub returns-in-Send-clause-sender : goal.returns-in-Send-clause-sender
returns-in-Send-clause-sender g c =
    let row = rw (c.event_at_memory.ensures, c.state.ensures) at c.in-Some.ensures.row in
    sends None c.in-Send.payload c.requires.line.sent (c.in-Some.row.next, rw c.in-Send.is at row)

within_row : (g : _) (c : In-Some-next g) → c.in-Some-next.core < length (row_of c.args.self.now.rows c.args.block)
within_row g c =
    concerned_within c.concerned-concerned.ensures.concerned (waits_within _ _ _ c.requires.waits) c.in-Some-next.core c.in-Some-next.ensures.some.2

pub state-state-requires-clause-core : goal.state-state-requires-clause-core
state-state-requires-clause-core g c = within_row g (goal.at.state-state-requires-clause-core g c).In-Some-next

pub unreachable-requires-in_default-cache_cell : goal.unreachable-requires-in_default-cache_cell
unreachable-requires-in_default-cache_cell g c =
    let none = rw (c.event_seen.ensures, c.state-state.ensures) at c.in_default-cache_cell.ensures.impossible in
    let within = within_row g (goal.at.unreachable-requires-in_default-cache_cell g c).In-Some-next in
    let there = (c.requires.rows c.in-Some-next.core within).1 in
    cc

pub returns-in-Send-action-clause-sender : goal.returns-in-Send-action-clause-sender
returns-in-Send-action-clause-sender g c =
    let row = rw (c.event_seen.ensures, c.state-state.ensures) at c.in-Some-cache_cell.ensures.row in
    sends (Some c.in-Some-next.core) c.in-Send-action.payload c.requires.line.sent
    (within_row g (goal.at.returns-in-Send-action-clause-sender g c).In-Some-next, sends_row _ _ (ap sent_by (rw c.in-Send-action.is at row)))

pub loop-core-init : goal.loop-core-init
loop-core-init g c =
    let before = free_picture (row_of c.args.self.now.rows c.args.block) (memory_line c.args.memory.now c.args.block) in
    let row = rw (c.event_at_memory.ensures, c.state.ensures) at c.in-Some.ensures.row in
    (Silent-none c.args.protocol before c.args.requestor c.args.request c.in-Some.row.action c.in-Some.row.next row c.in_default-action.not-Send, omega arith)

pub loop-core-preserved : goal.loop-core-preserved
loop-core-preserved g c =
    let before = free_picture (row_of c.args.self.now.rows c.args.block) (memory_line c.args.memory.now c.args.block) in
    let core = c.in-Some-next.core in
    let within : core < length (row_of c.args.self.now.rows c.args.block) = within_row g (goal.at.loop-core-preserved g c).In-Some-next in
    let row = rw (c.event_seen.ensures, c.state-state.ensures) at c.in-Some-cache_cell.ensures.row in
    let idle = λ (k : ℕ) (above : c.loop-core.from ≤ k) (below : k < core). Cell-passed c.concerned-concerned.ensures.concerned c.args.protocol c.requires.rows k (omega arith)
    (c.in-Some-next.ensures.some.3 k above below) in
    let silent = Silent-past c.args.protocol before c.args.requestor c.args.request c.loop-core.from core c.in-Some-next.ensures.some.0 idle c.loop-core.invariant.0 in
    (Silent-more c.args.protocol before c.args.requestor c.args.request core c.in-Some-cache_cell.cell.action c.in-Some-cache_cell.cell.next silent row c.in_default-action-2.not-Send, omega arith)

pub unreachable-requires-2 : goal.unreachable-requires-2
unreachable-requires-2 g c =
    let before = free_picture (row_of c.args.self.now.rows c.args.block) (memory_line c.args.memory.now c.args.block) in
    Silent-all c.args.protocol before c.args.requestor c.args.request (Silent-past c.args.protocol before c.args.requestor c.args.request c.loop-core.from (length (row_of c.args.self.now.rows c.args.block)) c.loop-core.invariant.1
    (λ k above below. Cell-passed c.concerned-concerned.ensures.concerned c.args.protocol c.requires.rows k below (c.in_default-next.ensures.none k above)) c.loop-core.invariant.0) c.requires.line

pub concerned-concerned-requires-clause-requestor : goal.concerned-concerned-requires-clause-requestor
concerned-concerned-requires-clause-requestor g c = waits_within _ _ _ c.requires.waits

pub loop-core-smaller : goal.loop-core-smaller
loop-core-smaller g c = omega (arith, within_row g (goal.at.loop-core-smaller g c).In-Some-next, c.in-Some-next.ensures.some.0)
