use Rattle.snoop_model.proofs.{Runs.GoOn.taken_goes_on, laws.taken_goes_on.Goals.returns-clause-goes_on as goal}

pub returns-clause-goes_on : goal
returns-clause-goes_on c = taken_goes_on
