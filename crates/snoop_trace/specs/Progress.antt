-- Of a text that is read: a reader that is plain, the records that are left, and the heading that may come first.
-- Source: this project's profile, over the records of the crate csv.
use Rattle.std.specs.Prelude.{◌≡◌, ℕ, ◌+◌, List, length, Option, option_map}
use Rattle.csv.specs.{Reading.{Ready, default_config, records_from, reader_config, reader_trim}, declared.parser.State.State}
use Rattle.csv.specs.declared.reader.Reader.{Reader}
use Rattle.csv.specs.declared.reader.Trim.TheVariants as trim
use Rattle.snoop_trace.specs.{Extent.Extent, Heading.heading_for, declared.{protocol.Protocol.Protocol, record.Heading.Heading}}

-- a reader of records with no header row, that trims nothing
pub record IsPlain {R : Type 0} (r : Reader R) : Type 0 where
  pub trim : reader_trim r ≡ trim.None
  pub ready : Ready r
  pub config : reader_config r ≡ default_config

-- the records that are left of a text, from a state
abbrev pub records_left : State → List ℕ → List (List (List ℕ))
records_left s xs = records_from default_config (length xs + 1) s xs

-- the heading that a text for the shape may begin with, where a protocol is asked for
abbrev pub heading_asked : Option Protocol → Extent → Option Heading
heading_asked protocol shape = option_map (λ protocol. heading_for protocol shape) protocol
