use Rattle.snoop_engine.proofs.Common.{append_assoc}
use Rattle.snoop_engine.proofs.counts_text.push_counts.Goals as goal

pub returns : goal.returns
returns c = simp append_assoc (simp append_assoc at (rw (c.in_ok-push_cache_counts.ensures, c.in_ok-push_text.ensures.ok) at c.push_memory_counts.ensures))
