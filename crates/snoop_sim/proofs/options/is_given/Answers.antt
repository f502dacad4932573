use Rattle.std.proofs.Common.{◌∙◌}
use Rattle.clap.specs.Words.{found_of}
use Rattle.snoop_sim.proofs.OptionLemmas.{given}
use Rattle.snoop_sim.proofs.options.is_given.Goals as goal

pub returns : goal.returns
returns c = c.is_some.ensures ∙ given (found_of c.args.options.now) c.args.name.now (λ s. s.now) c.get_str.result c.get_str.ensures
