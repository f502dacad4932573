use Rattle.snoop_scenes.proofs.{Play.{refl, told}, scenes.first_load.Goals.returns-clause-scene as goal}

pub returns-clause-scene : goal
returns-clause-scene c = told refl refl
