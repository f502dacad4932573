use Rattle.snoop_model.proofs.{Runs.GoOn.taken_once, laws.taken_once.Goals.returns as goal}

pub returns : goal
returns c = taken_once
