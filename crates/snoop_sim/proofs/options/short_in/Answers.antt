use Rattle.clap.specs.Words.{found_of}
use Rattle.std.specs.Str.Parse.{ParsesUnsigned, ExplainsUnsignedError, HasUnsignedDigitsIfOk}
use Rattle.snoop_sim.proofs.OptionLemmas.{number_read}
use Rattle.snoop_sim.proofs.options.short_in.Goals as goal

pub returns : goal.returns
returns c = number_read (found_of c.args.options.now) 32 c.args.name.now (λ bs r. ParsesUnsigned 32 10 bs r × ExplainsUnsignedError 10 bs r × HasUnsignedDigitsIfOk bs r) c.get_one.result
    c.get_one.ensures.none c.get_one.ensures.value (λ text parsed g. g.0)
