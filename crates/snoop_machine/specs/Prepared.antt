-- Room for a step, and a step that will be taken.
-- Source: this project's profile.
use Rattle.std.specs.Prelude.{◌≡◌, ℕ, ◌++◌, Option, option_to_list, min, slice_index, if◌then◌else◌}
use Rattle.snoop_trace.specs.declared.step.Step.{Step, TheVariants.Ask}
use Rattle.snoop_rules.specs.{declared.names.{CacheState.CacheState, CacheAction.{CacheAction, TheVariants.{Hit, Issue}}}, Cell.Cell, Takers.asked}
use Rattle.snoop_history.specs.declared.items.Item.{Item}
use Rattle.snoop_model.specs.{declared.replies.{Reply.Reply, Refused.Refused}, Pictures.Situation.{Situation, state_of}, Moves.Move.FirstMove}
use Rattle.snoop_machine.specs.Standing.{Standing, has_line}
use Rattle.snoop_model.specs.Moves.Refuses.{Refuses}

-- for how many more requests of the core that need a line first there is room: each takes a place in the core's queue and one in its map
abbrev pub places : Standing → ℕ → ℕ
places before core = min (slice_index before.request_rooms core) (slice_index before.line_rooms core)

-- for how many more requests of the core for the block there is room, by whether the core's map has a line for it
abbrev pub room_to_issue : Standing → ℕ → ℕ → ℕ
room_to_issue before core block = if has_line before core block then slice_index before.request_rooms core else places before core

-- for how many more Asks of the core for the block by this action there is room: a hit adds an item, an issue adds a request; for one that adds none 1 stands, as there is always room
abbrev pub room_to : CacheAction → Standing → ℕ → ℕ → ℕ
room_to Hit before core block = before.room
room_to (Issue request) before core block = room_to_issue before core block
room_to _ before core block = 1

-- there is no room for the item or the request that the step adds, or none for the line that its request needs
abbrev pub IsFull : Standing → Step → Type 0
IsFull before (Ask core block word asking) =
    (act : CacheAction) × ((next : CacheState) × (Cell before.situation.protocol (state_of before.situation core block) (asked asking) act next × (room_to act before core block ≡ 0)))
IsFull before _ = before.room ≡ 0

-- the step is not refused, has its room, and adds this item, if any, whatever move it is
pub record IsPrepared (before : Standing) (step : Step) (entry : Option Item) : Type 0 where
  pub allowed : (cause : Refused) → ¬ Refuses before.situation step cause
  pub room : ¬ IsFull before step
  pub adds : (answer : Reply) (new : Situation) → FirstMove before.situation step answer new → new.log ≡ before.situation.log ++ option_to_list entry
