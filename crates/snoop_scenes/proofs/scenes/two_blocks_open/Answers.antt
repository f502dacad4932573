use Rattle.snoop_scenes.proofs.{Play.{refl, told}, scenes.two_blocks_open.Goals.returns-clause-scene as goal}

pub returns-clause-scene : goal
returns-clause-scene c = told refl refl
