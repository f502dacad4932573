-- What the protocols are called where they are printed.
-- Source: "A Primer on Memory Consistency and Cache Coherence", 2nd edition, chapter 7.
use Rattle.std.specs.Prelude.{ℕ, List, codes}
use Rattle.snoop_trace.specs.declared.protocol.Protocol.{Protocol, TheVariants.{Msi, Mesi}}

-- the name of a protocol in small letters: `msi` or `mesi`
abbrev pub protocol_name : Protocol → List ℕ
protocol_name Msi = codes "msi"
protocol_name Mesi = codes "mesi"
