-- What is counted of a run: the items, the rows and the refused steps of each count.
-- Source: "A Primer on Memory Consistency and Cache Coherence", 2nd edition, chapter 7, whose rows they are; which of them are counted together is this project's profile.
use Rattle.std.specs.Prelude.{ℕ, ◌^◌, ◌==◌, ◌&&◌, ◌||◌, Bool, true, false, not, is_some, is_none, List, filter, length, nat_lt, Option, Some, None, Result, Ok, Err, if◌then◌else◌}
use Rattle.std.specs.Option.{option_map_or}
use Rattle.snoop_trace.specs.{Words.place_of, declared.step.Step.TheVariants.{Order}}
use Rattle.snoop_rules.specs.declared.names.{CacheEvent.{CacheEvent, TheVariants.{Evict, OwnGetM, OtherGetS, OtherGetM, Data, DataE}}, CacheState.CacheState}
use Rattle.snoop_rules.specs.declared.names.CacheState.TheVariants.{IsD, ImD, S, SmAd, E, M, EiA, MiA}
use Rattle.snoop_history.specs.{declared.items.{Came.Came, Item.Item}, History.operation_of, Within.{block_of, core_of}}
use Rattle.snoop_history.specs.declared.items.Item.TheVariants as item
use Rattle.snoop_history.specs.Totals.{capped, is_data, is_get_m, is_get_s, is_no_data, is_no_data_e, is_put_m, ordered, performed, responded}
use Rattle.snoop_model.specs.declared.replies.{Reply.Reply, Refused.Refused}
use Rattle.snoop_model.specs.declared.replies.Refused.TheVariants as refused
use Rattle.snoop_engine.specs.declared.taken.Taken.{Taken, TheVariants.{Core, Memory, Nobody}}
use Rattle.snoop_counts.specs.declared.count.{Cause.Cause, Count.Count, Happening.Happening, Subjects.Subjects}
use Rattle.snoop_counts.specs.declared.count.Cause.TheVariants as cause
use Rattle.snoop_counts.specs.declared.count.Count.TheVariants as count
use Rattle.snoop_counts.specs.declared.count.Happening.TheVariants as happening
use Rattle.snoop_counts.specs.declared.count.Subjects.TheVariants as subjects

-- a miss: an operation is performed with data that came because the core had no copy
abbrev pub is_miss : CacheState → CacheEvent → Bool
is_miss IsD Data = true
is_miss IsD DataE = true
is_miss ImD Data = true
is_miss _ _ = false

-- an upgrade: the GetM is ordered while the core may read
abbrev pub is_upgrade : CacheState → CacheEvent → Bool
is_upgrade SmAd OwnGetM = true
is_upgrade _ _ = false

-- a lost upgrade: another's GetM is ordered first
abbrev pub is_lost_upgrade : CacheState → CacheEvent → Bool
is_lost_upgrade SmAd OtherGetM = true
is_lost_upgrade _ _ = false

-- an invalidation: a shared copy is lost to another's GetM
abbrev pub is_invalidation : CacheState → CacheEvent → Bool
is_invalidation S OtherGetM = true
is_invalidation SmAd OtherGetM = true
is_invalidation _ _ = false

-- an owner's copy is taken by another's GetM
abbrev pub is_taking : CacheState → CacheEvent → Bool
is_taking E OtherGetM = true
is_taking M OtherGetM = true
is_taking _ _ = false

-- an owner becomes a sharer at another's GetS
abbrev pub is_downgrade : CacheState → CacheEvent → Bool
is_downgrade E OtherGetS = true
is_downgrade M OtherGetS = true
is_downgrade _ _ = false

-- another's request is ordered before the owner's PutM
abbrev pub is_overtaking : CacheState → CacheEvent → Bool
is_overtaking EiA OtherGetS = true
is_overtaking EiA OtherGetM = true
is_overtaking MiA OtherGetS = true
is_overtaking MiA OtherGetM = true
is_overtaking _ _ = false

-- a row of one of these kinds
abbrev pub is_some_row : CacheState → CacheEvent → Bool
is_some_row state event =
    is_miss state event || is_upgrade state event || is_lost_upgrade state event || is_invalidation state event || is_taking state event || is_downgrade state event || is_overtaking state event

-- the core's copy is lost to another's GetM
abbrev pub is_loss : CacheState → CacheEvent → Bool
is_loss state event = is_invalidation state event || is_taking state event

-- the core gives its copy up
abbrev pub is_giving_up : CacheState → CacheEvent → Bool
is_giving_up S Evict = true
is_giving_up E Evict = true
is_giving_up M Evict = true
is_giving_up _ _ = false

-- the line's state does not allow the operation yet
abbrev pub is_stall : Refused → Bool
is_stall (refused.Stalled state) = true
is_stall _ = false

-- the block has an open transaction
abbrev pub is_bus_taken : Refused → Bool
is_bus_taken (refused.BusTaken block) = true
is_bus_taken _ = false

-- the core's queue is empty
abbrev pub is_nothing_waiting : Refused → Bool
is_nothing_waiting refused.NothingWaiting = true
is_nothing_waiting _ = false

-- the block has no open transaction
abbrev pub is_no_transaction : Refused → Bool
is_no_transaction refused.NoTransaction = true
is_no_transaction _ = false

-- memory sent the response
abbrev pub is_from_memory : Came → Bool
is_from_memory came = is_none came.from

-- a core sent the response to a GetS or a GetM
abbrev pub is_from_cache : Came → Bool
is_from_cache came = is_some came.from && not (is_put_m came.request)

-- the items that a count counts
abbrev pub counts_item : Count → Item → Bool
counts_item count.Loads = performed (λ did. did.load)
counts_item count.LoadHits = performed (λ did. did.load && did.hit)
counts_item count.Stores = performed (λ did. not did.load)
counts_item count.StoreHits = performed (λ did. not did.load && did.hit)
counts_item count.GetS = ordered is_get_s
counts_item count.GetM = ordered is_get_m
counts_item count.PutM = ordered is_put_m
counts_item count.FromMemory = responded is_from_memory
counts_item count.FromCaches = responded is_from_cache
counts_item count.Writebacks = responded (λ came. is_put_m came.request && is_data came.payload)
counts_item count.Clean = responded (λ came. is_put_m came.request && is_no_data_e came.payload)
counts_item count.Stale = responded (λ came. is_put_m came.request && is_no_data came.payload)
counts_item count.Supplied = responded is_from_cache
counts_item count.Operations = performed (λ did. true)
counts_item _ = λ entry. false

-- the rows of a core that a count counts
abbrev pub counts_row : Count → CacheState → CacheEvent → Bool
counts_row count.Misses = is_miss
counts_row count.Upgrades = is_upgrade
counts_row count.UpgradesLost = is_lost_upgrade
counts_row count.Invalidated = is_invalidation
counts_row count.Taken = is_taking
counts_row count.Downgraded = is_downgrade
counts_row count.Overtaken = is_overtaking
counts_row count.Invalidates = is_invalidation
counts_row _ = λ state event. false

-- the refusals that a count counts
abbrev pub counts_refusal : Count → Refused → Bool
counts_refusal count.Stalled = is_stall
counts_refusal count.BusTaken = is_bus_taken
counts_refusal count.NothingWaiting = is_nothing_waiting
counts_refusal count.NoTransaction = is_no_transaction
counts_refusal _ = λ cause. false

-- the cause of a miss that a count counts
abbrev pub counts_cause : Count → Cause → Bool
counts_cause count.Cold cause.Cold = true
counts_cause count.GivenUp cause.GivenUp = true
counts_cause count.TrueSharing cause.TrueSharing = true
counts_cause count.FalseSharing cause.FalseSharing = true
counts_cause _ _ = false

-- it is the count of all lines
abbrev pub counts_lines : Count → Bool
counts_lines count.Lines = true
counts_lines _ = false

-- in the line a core takes a row that passes the test
abbrev pub has_row : (CacheState → CacheEvent → Bool) → Taken → Bool
has_row test (Core core block (Some event) before) = test before event
has_row test (Core core block None before) = false
has_row test (Memory block event before) = false
has_row test (Nobody core block) = false

-- the step was refused for a cause that passes the test
abbrev pub is_refused : (Refused → Bool) → Result Reply Refused → Bool
is_refused test (Ok answer) = false
is_refused test (Err cause) = test cause

-- what a count counts: items, lines with rows, misses by their causes, and lines of refused steps
abbrev pub counts : Count → Happening → Bool
counts counted (happening.Item entry) = counts_item counted entry
counts counted (happening.Line step outcome line why) =
    counts_lines counted || has_row (counts_row counted) line || is_refused (counts_refusal counted) outcome || option_map_or (counts_cause counted) why false

-- the core that a line names, if any
abbrev pub core_named : Taken → Option ℕ
core_named (Core core block event before) = Some core
core_named (Memory block event before) = None
core_named (Nobody core block) = core

-- the block that a line names, if any
abbrev pub block_named : Taken → Option ℕ
block_named (Core core block event before) = Some block
block_named (Memory block event before) = Some block
block_named (Nobody core block) = block

-- the core that an item is of, or that a line names
abbrev pub own_core : Happening → Option ℕ
own_core (happening.Item entry) = Some (core_of entry)
own_core (happening.Line step outcome line why) = core_named line

-- the block that an item is of, or that a line names
abbrev pub own_block : Happening → Option ℕ
own_block (happening.Item entry) = Some (block_of entry)
own_block (happening.Line step outcome line why) = block_named line

-- a place that a number of 32 bits can name
abbrev pub named_place : ℕ → Option ℕ
named_place place = if nat_lt place (2 ^ 32) then Some place else None

-- the place of the word of the operation that an item performs
abbrev pub own_word : ℕ → Happening → Option ℕ
own_word words (happening.Item entry) = option_map_or (λ did. named_place (place_of words did.block did.word)) (operation_of entry) None
own_word words (happening.Line step outcome line why) = None

-- the core whose Order the line is of
abbrev pub requestor_of : Happening → Option ℕ
requestor_of (happening.Line (Order core) outcome line why) = Some core
requestor_of _ = None

-- the core that sent the response
abbrev pub response_sender : Happening → Option ℕ
response_sender (happening.Item (item.Came came did)) = came.from
response_sender _ = None

-- the core for which it is counted: the one that it is of, but for what a core does to others
abbrev pub core_counted : Count → Happening → Option ℕ
core_counted count.Invalidates = requestor_of
core_counted count.Supplied = response_sender
core_counted _ = own_core

-- for whom it is counted
abbrev pub subject_of : Subjects → Count → Happening → Option ℕ
subject_of subjects.Cores counted = core_counted counted
subject_of subjects.Blocks counted = own_block
subject_of (subjects.Words words) counted = own_word words
subject_of subjects.Machine counted = λ seen. Some 0

-- it is the subject
abbrev pub is_it : Option ℕ → ℕ → Bool
is_it found subject = option_map_or (λ it. it == subject) found false

-- it is counted for the subject
abbrev pub is_counted : Subjects → ℕ → Count → Happening → Bool
is_counted whose subject counted seen = counts counted seen && is_it (subject_of whose counted seen) subject

-- how often
abbrev pub times_counted : Subjects → List Happening → ℕ → Count → ℕ
times_counted whose seen subject counted = length (filter (is_counted whose subject counted) seen)

-- the same as a `u64` holds it
abbrev pub counted_of : Subjects → List Happening → ℕ → Count → ℕ
counted_of whose seen subject counted = capped (times_counted whose seen subject counted)

-- the subject has a line: a line of a step names it
abbrev pub is_named : Subjects → List Happening → ℕ → Bool
is_named whose seen subject = nat_lt 0 (times_counted whose seen subject count.Lines)
