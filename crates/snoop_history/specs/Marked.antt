-- How touched blocks are kept.
-- Source: this project's profile.
use Rattle.std.specs.{Prelude.{◌≡◌, ℕ, ◌+◌, ◌≤◌, ◌<◌, Some, All, Bool, List, length, filter, slice_get, nat_eq}, List.list_any}
use Rattle.indexmap.specs.IndexSet.{index_set_len, spare}
use Rattle.snoop_history.specs.{declared.board.TouchedBlocks.TheInside.Inside, Mentions.Mentions}

-- touched blocks as callers see them
abbrev pub mentions : Inside → Mentions
mentions t = record { blocks = length t.marks.items; order = t.order.keys }

-- how many marks are set
abbrev pub set_marks : List Bool → ℕ
set_marks marks = length (filter (λ mark. mark) marks)

-- the marks are those of the blocks in the list, each of which has one
pub record AreMarksOf (marks : List Bool) (order : List ℕ) : Type 0 where
  pub marked : (block : ℕ) → block < length marks → slice_get marks block ≡ Some (list_any (nat_eq block) order)
  pub counted : length order ≡ set_marks marks
  pub within : All (λ block. block < length marks) order

-- and there is room for every block
pub record IsMarked (t : Inside) : Type 0 where
  pub marks : AreMarksOf t.marks.items t.order.keys
  pub room : length t.marks.items ≤ index_set_len t.order + spare t.order
