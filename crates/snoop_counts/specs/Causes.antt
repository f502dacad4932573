-- Why a core had no copy at a miss.
-- Source: this project's profile.
use Rattle.std.specs.{Prelude.{ℕ, ◌-◌, ◌&&◌, Bool, List, length, false, nat_lt, reverse, slice_get, Option, Some, None, if◌then◌else◌}, Option.option_map_or}
use Rattle.std.specs.List.{list_any, position_or_len}
use Rattle.snoop_rules.specs.declared.names.{CacheEvent.CacheEvent, CacheState.CacheState}
use Rattle.snoop_history.specs.{declared.items.{Did.Did, Item.Item}, History.{is_store_to, operation_of}}
use Rattle.snoop_engine.specs.{Frames.Frame, Taken.lines_of_step, declared.taken.Taken.{Taken, TheVariants.{Core, Memory, Nobody}}}
use Rattle.snoop_counts.specs.{Counted.{block_named, core_named, has_row, is_giving_up, is_it, is_loss, is_miss}, declared.count.Cause.Cause}
use Rattle.snoop_counts.specs.declared.count.Cause.TheVariants.{Cold, GivenUp, TrueSharing, FalseSharing}

-- the number of the last of these steps that passes the test, from 1; 0 where none does
abbrev pub last_step : (Frame → Bool) → List Frame → ℕ
last_step test frames = length frames - position_or_len test (reverse frames)

-- the line is a row of the core for the block that passes the test
abbrev pub takes_such_row : (CacheState → CacheEvent → Bool) → ℕ → ℕ → Taken → Bool
takes_such_row test block core line = has_row test line && is_it (block_named line) block && is_it (core_named line) core

-- in the step the core loses its copy of the block to another's GetM
abbrev pub loses : ℕ → ℕ → Frame → Bool
loses block core frame = list_any (takes_such_row is_loss block core) (lines_of_step frame.before frame.step frame.outcome)

-- in the step the core gives its copy of the block up
abbrev pub gives_up : ℕ → ℕ → Frame → Bool
gives_up block core frame = list_any (takes_such_row is_giving_up block core) (lines_of_step frame.before frame.step frame.outcome)

-- what the step adds to the history, if anything
abbrev pub item_of : Frame → Option Item
item_of frame = slice_get frame.after.log (length frame.before.log)

-- the operation that the step performs, if any
abbrev pub operation_in : Frame → Option Did
operation_in frame = option_map_or operation_of (item_of frame) None

-- in the step the word of the block is stored to
abbrev pub is_stored_to : ℕ → ℕ → Frame → Bool
is_stored_to block word frame = option_map_or (is_store_to block word) (operation_in frame) false

-- the core has lost its copy later than it has given one up
abbrev pub has_lost : List Frame → ℕ → ℕ → Bool
has_lost earlier block core = nat_lt (last_step (gives_up block core) earlier) (last_step (loses block core) earlier)

-- the word was stored to after the core has lost its copy
abbrev pub is_stored_since : List Frame → ℕ → ℕ → ℕ → Bool
is_stored_since earlier block core word = nat_lt (last_step (loses block core) earlier) (last_step (is_stored_to block word) earlier)

-- why the core has no copy of the block, after these steps, when it misses the word
abbrev pub cause_after : List Frame → ℕ → ℕ → ℕ → Cause
cause_after earlier block core word =
    if has_lost earlier block core then (if is_stored_since earlier block core word then TrueSharing else FalseSharing)
    else (if nat_lt 0 (last_step (gives_up block core) earlier) then GivenUp else Cold)

-- the word of an operation
abbrev pub word_of : Option Did → ℕ
word_of operation = option_map_or (λ did. did.word) operation 0

-- the cause of a line that is a miss, by the steps before it and the operation that its step performs
abbrev pub cause_of : List Frame → Option Did → Taken → Option Cause
cause_of earlier operation (Core core block (Some event) before) = if is_miss before event then Some (cause_after earlier block core (word_of operation)) else None
cause_of earlier operation (Core core block None before) = None
cause_of earlier operation (Memory block event before) = None
cause_of earlier operation (Nobody core block) = None
