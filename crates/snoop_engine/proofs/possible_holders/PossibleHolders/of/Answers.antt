use Rattle.snoop_engine.proofs.{Common.◌∙◌, Common.{[], sym, get_or_from_slice_get, unwrap_or-slice_get}, PossibleHolderLemmas.has_nothing}
use Rattle.snoop_engine.proofs.possible_holders.PossibleHolders.of.Goals as goal

pub returns-in-None : goal.returns-in-None
returns-in-None c = λ s are core out.
    let nothing = rw (sym c.get.ensures ∙ c.in-None.is) at (sym (unwrap_or-slice_get c.args.self.now.sets c.args.block [])) in
    are.others c.args.block core (rw nothing (has_nothing core))

pub returns-in-Some : goal.returns-in-Some
returns-in-Some c = λ s are core out. are.others c.args.block core (rw (get_or_from_slice_get c.args.self.now.sets c.args.block c.in-Some.cores [] (sym c.get.ensures ∙ c.in-Some.is)) out)
