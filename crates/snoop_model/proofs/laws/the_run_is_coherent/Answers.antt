use Rattle.snoop_model.proofs.{Common.reset, Invariant.Safety.every_run_is_coherent, Runs.GoOn.goes_any}
use Rattle.snoop_model.proofs.laws.the_run_is_coherent.Goals as goal

pub returns-clause-is_run : goal.returns-clause-is_run
returns-clause-is_run c protocol shape steps outcomes new run = goes_any steps outcomes (reset protocol shape) new run

pub returns-clause-coherent : goal.returns-clause-coherent
returns-clause-coherent c protocol shape steps outcomes new run =
    every_run_is_coherent protocol shape steps outcomes new (goes_any steps outcomes (reset protocol shape) new run)
