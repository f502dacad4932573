use Rattle.snoop_trace.proofs.text.read_rows.Given as goal

-- what is known of the reader as the call begins
abbrev pub ghosts-read_entries : goal.ghosts-read_entries
ghosts-read_entries g a = record { before = g.R.Source.failed a.reader.now }
