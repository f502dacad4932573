use Rattle.std.proofs.Common.{rules, refl, false, Some, None}
use Rattle.clap.specs.Words.{found_of}
use Rattle.snoop_sim.proofs.OptionLemmas.{said}
use Rattle.snoop_sim.proofs.options.says.Goals as goal

pub returns-in-Some : goal.returns-in-Some
returns-in-Some c = said false (found_of c.args.options.now) c.args.name.now c.args.value.now (Some c.in-Some.text.now) c.eq.result (search rules) (search rules)

pub returns-in-None : goal.returns-in-None
returns-in-None c = said false (found_of c.args.options.now) c.args.name.now c.args.value.now None false (search rules) refl
