-- What a seat and a watch show, and which are new.
-- Source: this project's profile.
use Rattle.std.specs.Prelude.{◌≡◌, ℕ, ◌<◌, List, [], length, All, Option, None, slice_index_or}
use Rattle.snoop_trace.specs.{Extent.Extent, declared.{protocol.Protocol.Protocol, step.Work.Work}}
use Rattle.snoop_history.specs.declared.items.{Did.Did, Item.Item}
use Rattle.snoop_versions.specs.Readings.{IsHistoryFor, StartsWith}
use Rattle.snoop_cores.specs.declared.stop.Stop.{Stop}

-- the machine that is shared: its protocol and its shape
pub record Setup : Type 0 where
  pub protocol : Protocol
  pub shape : Extent

-- a seat: its core, the shape, the list that it has seen, its answers, its pending operation, the operation that it reported as a stranger's, where its rows stopped, and a count that changes whenever it takes turns
pub record Seating : Type 0 where
  pub core : ℕ
  pub shape : Extent
  pub seen : List Item
  pub answers : List Did
  pub pending : Option Work
  pub strange : Option Did
  pub stop : Option Stop
  pub turns : ℕ

-- a watch: the shape, and the list that it has seen
pub record Watching : Type 0 where
  pub shape : Extent
  pub seen : List Item

-- what is seen now, as after a version was read: the history of a machine of this shape, which begins with what was seen before
pub record SeesOn (shape : Extent) (before after : List Item) : Type 0 where
  pub history : IsHistoryFor shape after
  pub begins : StartsWith after before

-- a seat that has done nothing; what it has seen is the history of a machine
pub record IsNew (core : ℕ) (shape : Extent) (seat : Seating) : Type 0 where
  pub core_is : seat.core ≡ core
  pub shape_is : seat.shape ≡ shape
  pub history : IsHistoryFor shape seat.seen
  pub answers : seat.answers ≡ []
  pub pending : seat.pending ≡ None
  pub strange : seat.strange ≡ None

-- one new seat for each core, in order of core
abbrev pub AreSeats : Extent → List Seating → Type 0
AreSeats shape seats = (length seats ≡ shape.cores) × ((core : ℕ) (d : Seating) → core < shape.cores → IsNew core shape (slice_index_or seats core d))

-- each seat stands at its core's place
abbrev pub AreInOrder : List Seating → Type 0
AreInOrder seats = (core : ℕ) (d : Seating) → core < length seats → (slice_index_or seats core d).core ≡ core

-- a watch of this shape; what it has seen is the history of a machine
pub record IsNewWatch (shape : Extent) (watch : Watching) : Type 0 where
  pub shape_is : watch.shape ≡ shape
  pub history : IsHistoryFor shape watch.seen

-- so many new watches, of this shape
abbrev pub AreWatches : ℕ → Extent → List Watching → Type 0
AreWatches count shape watches = (length watches ≡ count) × All (IsNewWatch shape) watches
