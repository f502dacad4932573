use Rattle.std.{proofs.Common.{◌∙◌, ap, arith, inl, inr, map, refl, string_bytes, sym}, specs.Prelude.Err}
use Rattle.snoop_sim.{specs.Performed.status_of_ending, proofs.Statuses.{failed_read_status, refused_status, refused_unread, status_known}}
use Rattle.snoop_sim.proofs.program.command.Goals as goal

-- nothing is begun
pub returns-in-Err-clause-does : goal.returns-in-Err-clause-does
returns-in-Err-clause-does g c =
    let begins = c.in-Err.ensures.err in
    let unread = refused_unread (map string_bytes c.args.words.now) c.in-Err.failure begins in (
      Err c.in-Err.failure,
      c.report.ensures,
      (λ never. unread),
      (λ old. ((λ failed. absurd (unread failed)), (λ none. old))),
      inr (c.in-Err.failure, refl, begins, refl),
      (λ early. refl),
    )

pub returns-in-Err-clause-known : goal.returns-in-Err-clause-known
returns-in-Err-clause-known g c = rw c.report.ensures (status_known c.in-Err.failure)

pub returns-in-Err-clause-never_blamed : goal.returns-in-Err-clause-never_blamed
returns-in-Err-clause-never_blamed g c = λ never four.
    let few = refused_status (map string_bytes c.args.words.now) c.in-Err.failure c.in-Err.ensures.err in omega (arith, few.1, four, c.report.ensures)

pub returns-in-Err-clause-blamed : goal.returns-in-Err-clause-blamed
returns-in-Err-clause-blamed g c = λ old.
    let few = refused_status (map string_bytes c.args.words.now) c.in-Err.failure c.in-Err.ensures.err in
    ((λ four. absurd (omega (arith, few.1, four, c.report.ensures))), (λ other. old))

-- the task was performed
pub returns-in-Ok-perform-clause-does : goal.returns-in-Ok-perform-clause-does
returns-in-Ok-perform-clause-does g c =
    let done = c.perform.ensures in
    (c.perform.result, sym (ap status_of_ending c.in-Ok-perform.is), done.reads, done.read_blamed, inl (c.in-Ok.task, c.in-Ok.ensures.ok, done.does), done.before)

-- it failed
pub returns-in-Err-perform-clause-does : goal.returns-in-Err-perform-clause-does
returns-in-Err-perform-clause-does g c =
    let done = c.perform.ensures in
    let status = c.report-in-Err-perform.ensures ∙ sym (ap status_of_ending c.in-Err-perform.is) in
    (c.perform.result, status, done.reads, done.read_blamed, inl (c.in-Ok.task, c.in-Ok.ensures.ok, done.does), done.before)

pub returns-in-Err-perform-clause-known : goal.returns-in-Err-perform-clause-known
returns-in-Err-perform-clause-known g c = rw c.report-in-Err-perform.ensures (status_known c.in-Err-perform.failure)

pub returns-in-Err-perform-clause-read_blamed : goal.returns-in-Err-perform-clause-read_blamed
returns-in-Err-perform-clause-read_blamed g c old new =
    c.report-in-Err-perform.ensures ∙ failed_read_status c.in-Err-perform.failure _ _ c.in-Err-perform.ensures.read_blamed old new
