-- Which core and block an item is of, and which items lie within a shape.
-- Source: this project's profile.
use Rattle.std.specs.{Prelude.{ℕ, ◌<◌, Bool, true, ◌&&◌, List, Option, None, filter, nat_lt}, Option.{option_map_or, ForSome}}
use Rattle.snoop_history.specs.{declared.items.Item.Item, History.operation_of}
use Rattle.snoop_history.specs.declared.items.Item.TheVariants as item

-- the core that an item is of: it performed, requested or was answered
abbrev pub core_of : Item → ℕ
core_of (item.Did did) = did.core
core_of (item.Sent sent) = sent.core
core_of (item.Came came did) = came.core

-- the block that an item is of
abbrev pub block_of : Item → ℕ
block_of (item.Did did) = did.block
block_of (item.Sent sent) = sent.block
block_of (item.Came came did) = came.block

-- the core that sent the item's response; None where memory did, or the item is no response
abbrev pub sender_of_response : Item → Option ℕ
sender_of_response (item.Did did) = None
sender_of_response (item.Sent sent) = None
sender_of_response (item.Came came did) = came.from

-- the item's core and block are within the shape, and so are the core that sent its response, if one did, and the core, block and word of its operation, if it has one
pub record IsItemWithin (cores blocks words : ℕ) (entry : Item) : Type 0 where
  pub core : core_of entry < cores
  pub block : block_of entry < blocks
  pub sender : ForSome (sender_of_response entry) (λ core. core < cores)
  pub operation : ForSome (operation_of entry) (λ did. (did.core < cores) × (did.block < blocks) × (did.word < words))

-- the same as a test
abbrev pub is_within : ℕ → ℕ → ℕ → Item → Bool
is_within cores blocks words entry =
    nat_lt (core_of entry) cores && nat_lt (block_of entry) blocks && option_map_or (λ core. nat_lt core cores) (sender_of_response entry) true
    && option_map_or (λ did. nat_lt did.core cores && nat_lt did.block blocks && nat_lt did.word words) (operation_of entry) true

-- the items of a list that lie within the shape
abbrev pub inside : ℕ → ℕ → ℕ → List Item → List Item
inside cores blocks words items = filter (is_within cores blocks words) items
