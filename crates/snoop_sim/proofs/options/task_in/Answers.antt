use Rattle.std.proofs.{Common.{◌≡◌, None, Some, rules}, lemmas.Result.{IfErr-weaker, IfOk-weaker}}
use Rattle.clap.specs.Words.{found_of, kind_of, rows_of, subcommand_rows_of}
use Rattle.snoop_sim.{specs.{Asked.HasNoTask, declared.failure.Failure.TheVariants.NoCommand}, proofs.AskedLemmas.{asked, help_asked, named, refused, shown, without_task}}
use Rattle.snoop_sim.proofs.options.task_in.Goals as goal

pub returns-in-Some-clause-ok : goal.returns-in-Some-clause-ok
returns-in-Some-clause-ok c =
    let met : subcommand_rows_of c.in-Ok.matches ≡ Some (c.in-Some.name.now, rows_of (found_of c.in-Some.options.now)) = search rules in
    let found = c.in-Ok.ensures in
    IfOk-weaker c.task_of.result _ _ (asked _ _ c.in_ok-grammar.ensures _ _ (named _ _ c.in_ok-grammar.ensures _ c.in-Ok.matches met found.matches found.kinds)) c.task_of.ensures.ok

pub returns-in-Some-clause-err : goal.returns-in-Some-clause-err
returns-in-Some-clause-err c =
    let met : subcommand_rows_of c.in-Ok.matches ≡ Some (c.in-Some.name.now, rows_of (found_of c.in-Some.options.now)) = search rules in
    let found = c.in-Ok.ensures in
    IfErr-weaker c.task_of.result _ _ (without_task _ _ c.in_ok-grammar.ensures _ _ (named _ _ c.in_ok-grammar.ensures _ c.in-Ok.matches met found.matches found.kinds)) c.task_of.ensures.err

pub returns-in-Ok-clause-err : goal.returns-in-Ok-clause-err
returns-in-Ok-clause-err c =
    let met : subcommand_rows_of c.in-Ok.matches ≡ None = search rules in
    let found = c.in-Ok.ensures in
    named _ _ c.in_ok-grammar.ensures _ c.in-Ok.matches met found.matches found.kinds (λ command. HasNoTask command NoCommand) tt

pub returns-in-Err-clause-err : goal.returns-in-Err-clause-err
returns-in-Err-clause-err c = refused _ _ c.in_ok-grammar.ensures c.in-Err.error c.from.result c.in-Err.ensures.kinds (search rules) c.from.ensures

pub returns-clause-ok : goal.returns-clause-ok
returns-clause-ok c = help_asked _ _ c.in_ok-grammar.ensures c.in-Err.error c.in-Err.ensures.kinds (shown (kind_of c.in-Err.error) (search rules))
