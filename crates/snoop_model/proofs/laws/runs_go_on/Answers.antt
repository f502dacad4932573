use Rattle.snoop_model.proofs.{Runs.GoOn.runs_go_on, laws.runs_go_on.Goals.returns as goal}

pub returns : goal
returns c = runs_go_on
