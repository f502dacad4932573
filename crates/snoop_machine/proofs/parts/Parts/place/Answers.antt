use Rattle.snoop_machine.proofs.{Common.{◌∙◌}, PartsViews.place_shown}
use Rattle.snoop_machine.proofs.parts.Parts.place.Goals as goal

pub returns : goal.returns
returns g c = rw (← c.self.view_is) (c.place.ensures ∙ place_shown c.self.inside.bus c.args.core c.args.block)
