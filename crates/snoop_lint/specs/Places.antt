-- What a place says of the reader of the crate csv.
-- Source: this project's profile.
use Rattle.csv.specs.declared.parser.State.{State}
use Rattle.csv.specs.declared.parser.State.TheVariants as st
use Rattle.snoop_lint.specs.declared.lines.Place.{Place}
use Rattle.snoop_lint.specs.declared.lines.Place.TheVariants as place

-- the state of the reader at a place
abbrev pub state_at_place : Place → State
state_at_place place.Between = st.StartRecord
state_at_place place.Return = st.AfterCr
state_at_place place.Field = st.StartField
state_at_place place.Inside = st.InField
state_at_place place.Quoted = st.InQuoted
state_at_place place.Quote = st.AfterQuote
