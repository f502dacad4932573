use Rattle.snoop_sim.proofs.OptionLemmas.{shape_named}
use Rattle.snoop_sim.proofs.options.shape_in.Goals as goal

pub returns : goal.returns
returns c = (
  c.unwrap_or.result,
  c.unwrap_or-2.result,
  c.unwrap_or-3.result,
  c.unwrap_or-4.result,
  (c.short_in.result, c.short_in.ensures, c.unwrap_or.ensures),
  (c.short_in-2.result, c.short_in-2.ensures, c.unwrap_or-2.ensures),
  (c.short_in-3.result, c.short_in-3.ensures, c.unwrap_or-3.ensures),
  (c.short_in-4.result, c.short_in-4.ensures, c.unwrap_or-4.ensures),
  shape_named c.unwrap_or.result c.unwrap_or-2.result c.unwrap_or-3.result c.unwrap_or-4.result c.with_words.result
      c.with_words.ensures.ok c.with_words.ensures.bad_cores.0 c.with_words.ensures.bad_blocks.0 c.with_words.ensures.bad_bytes.0 c.with_words.ensures.bad_words.0,
)
