use Rattle.snoop_trace.proofs.AskedLemmas.{asked_refused, asked_within}
use Rattle.snoop_trace.proofs.text.gather_asked.Goals as goal

pub read_entries-requires-clause-fits : goal.read_entries-requires-clause-fits
read_entries-requires-clause-fits g c asked by = c.requires.fits asked (asked_within c.args.shape asked c.within_limits.ensures by)

pub returns-clause-fault : goal.returns-clause-fault
returns-clause-fault g c =
    asked_refused c.args.shape (g.R.Read.remaining c.args.reader.now) (g.C.Entries.listed) c.read_entries.result c.read_entries.ensures.read
