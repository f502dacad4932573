-- A machine's situation with its room, and the blocks that its maps have lines for.
-- Source: this project's profile.
use Rattle.std.specs.{Prelude.{◌<◌, ◌≤◌, ℕ, ◌+◌, ◌-◌, Bool, List, [], length, nat_eq, slice_index, slice_index_or}, List.list_any}
use Rattle.snoop_bus.specs.Queues.{queue_of}
use Rattle.snoop_model.specs.Pictures.Situation.{Situation}

-- the situation; for how many more requests of each core there is room; for how many more lines each core's map has room, 0 where there is no room for a request of the core; for how many more items; and the blocks that each core's map has a line for
pub record Standing : Type 0 where
  pub situation : Situation
  pub request_rooms : List ℕ
  pub line_rooms : List ℕ
  pub room : ℕ
  pub lines : List (List ℕ)

-- how many lines the core's map has
abbrev pub line_count : Standing → ℕ → ℕ
line_count s core = length (slice_index_or s.lines core [])

-- whether the core's map has a line for the block
abbrev pub has_line : Standing → ℕ → ℕ → Bool
has_line s core block = list_any (nat_eq block) (slice_index_or s.lines core [])

-- how many requests of the core find room in all, those that wait included
abbrev pub capacity_of : Standing → ℕ → ℕ
capacity_of s core = length (queue_of s.situation.queues core) + slice_index s.request_rooms core

-- no room is lost: as many items in all, and as many requests of each core; and where a core's queue has room before and after, the room for its lines shrinks by no more than the lines that were put in
pub record KeepsRoom (old new : Standing) : Type 0 where
  pub items : length old.situation.log + old.room ≤ length new.situation.log + new.room
  pub requests : (core : ℕ) → capacity_of old core ≤ capacity_of new core
  pub lines : (core : ℕ) → 0 < slice_index old.request_rooms core → 0 < slice_index new.request_rooms core → slice_index old.line_rooms core ≤ slice_index new.line_rooms core + (line_count new core - line_count old core)
