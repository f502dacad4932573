-- What a log keeps.
-- Source: this project's profile.
use Rattle.std.specs.Prelude.{◌≡◌, ℕ, ◌≤◌, ◌-◌, ◌^◌, min, List, length, map, take, Some, slice_get, vec_len, vec_capacity}
use Rattle.snoop_history.specs.{declared.{items.Item.Item, log.Log.TheInside.Inside}, History.IsNumbered, Totals.touched, Journal.Journal, Within.IsItemWithin}
use Rattle.snoop_history.specs.{Packed.unpacked, Board.{Tables, board_of}}

-- a log as callers see it: it has room up to its list's capacity, and for 2 ^ 48 items at most
abbrev pub journal : Inside → Journal
journal l =
    record {
      cores = length l.board.counts;
      blocks = l.board.blocks;
      words = l.board.words;
      items = map unpacked l.items.items;
      room = min (vec_capacity l.items) (2 ^ 48) - vec_len l.items;
    }

-- each item lies within the shape, and its operation carries its core's next number
pub record IsKeptList (cores blocks words : ℕ) (items : List Item) : Type 0 where
  pub within : (k : ℕ) (entry : Item) → slice_get items k ≡ Some entry → IsItemWithin cores blocks words entry
  pub in_order : (k : ℕ) (entry : Item) → slice_get items k ≡ Some entry → IsNumbered (take k items) entry

-- the shape is within the limits, the board is that of the items, and the blocks are those that they touch
pub record IsTallied (cores blocks words : ℕ) (items : List Item) (board : Tables) (order : List ℕ) : Type 0 where
  pub few_cores : cores ≤ 256
  pub few_blocks : blocks ≤ 65536
  pub few_words : words ≤ 64
  pub listed : IsKeptList cores blocks words items
  pub tallied : board ≡ board_of cores blocks words items
  pub mentioned : order ≡ touched items

-- what holds of every log
pub record LogKeeps (l : Inside) : Type 0 where
  pub kept : IsTallied (length l.board.counts) l.board.blocks l.board.words (map unpacked l.items.items) l.board l.touched.order
  pub as_many : l.touched.blocks ≡ l.board.blocks
