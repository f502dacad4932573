-- What a board shows: the tables of the items that it has absorbed.
-- Source: this project's profile.
use Rattle.std.specs.{Prelude.{ℕ, ◌*◌, ◌/◌, ◌%◌, true, List, length, map, Option, Some, None, slice_index, slice_set, if◌then◌else◌}, List.range_with_len}
use Rattle.snoop_trace.specs.Words.{place_of}
use Rattle.snoop_history.specs.{declared.items.{Did.Did, Item.Item, Totals.Totals}, History.{operation_of, next_number, flat, last_of}}
use Rattle.snoop_history.specs.{Within.{is_within, inside}, Journal.{counted, tallied}, Totals.{totals_of, capped, capped_totals}}

-- how many blocks there are, and how many words a block; values by word, those of block 0 first; counts and last operations by core; and totals
pub record Tables : Type 0 where
  pub blocks : ℕ
  pub words : ℕ
  pub values : List ℕ
  pub counts : List ℕ
  pub lasts : List (Option Did)
  pub totals : Totals

-- one entry for each number below n
abbrev pub for_each_below : {A : Type 0} → ℕ → (ℕ → A) → List A
for_each_below n entry = map entry (range_with_len 0 n)

-- the board of a list: flat memory, counts and last operations of the items within the shape, and the counts of all
abbrev pub board_of : ℕ → ℕ → ℕ → List Item → Tables
board_of cores blocks words items =
    record {
      blocks = blocks;
      words = words;
      values = for_each_below (blocks * words) (λ place. flat (inside cores blocks words items) (place / words) (place % words));
      counts = for_each_below cores (λ core. capped (next_number (inside cores blocks words items) core));
      lasts = for_each_below cores (last_of (inside cores blocks words items));
      totals = capped_totals (totals_of items);
    }

-- the operation that counts for a board of this shape: that of an item within it
abbrev pub operation_within : ℕ → ℕ → ℕ → Item → Option Did
operation_within cores blocks words entry = if is_within cores blocks words entry then operation_of entry else None

-- the tables of cores and blocks after an operation
abbrev pub noted : Tables → Option Did → Tables
noted board None = board
noted board (Some did) =
    record board {
      values = if did.load then board.values else slice_set board.values (place_of board.words did.block did.word) did.value;
      counts = slice_set board.counts did.core (counted (slice_index board.counts did.core) true);
      lasts = slice_set board.lasts did.core (Some did);
    }

-- a board after one more item
abbrev pub absorbed : Tables → Item → Tables
absorbed board entry =
    record (noted board (operation_within (length board.counts) board.blocks board.words entry)) {
      totals = tallied board.totals entry;
    }
