use Rattle.snoop_scenes.proofs.{Play.{refl, told}, scenes.load_hits_while_store_waits.Goals.returns-clause-scene as goal}

pub returns-clause-scene : goal
returns-clause-scene c = told refl refl
