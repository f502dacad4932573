use Rattle.std.proofs.Common.{◌⊎◌, ◌+◌, ◌<◌, ◌≤◌, ◌^◌, length, All}
use Rattle.snoop_trace.{proofs.TextLemmas.SoFar, specs.Progress.{IsPlain, heading_asked}}
use Rattle.snoop_trace.proofs.text.take_text.Given as goal

-- the records so far gave the entries so far, and the reader stands after them
abbrev pub invariant-loop-i : goal.invariant-loop-i
invariant-loop-i g l = IsPlain l.text
    × SoFar g.R.Read.remaining (g.E.Entry.says l.shape) (heading_asked l.protocol l.shape) l.fn.text l.text (g.C.Entries.listed l.entries) l.i
    × All (g.E.Entry.within l.shape) (g.C.Entries.listed l.entries)
    × ((l.i ≤ 1) ⊎ (length (g.C.Entries.listed l.entries) < 2 ^ 63))
    × (l.i ≤ length (g.C.Entries.listed l.entries) + 1)
