-- Counters, a row of them for each core, block or word, or one for the machine, and what they have counted.
-- Source: this project's profile.
use Rattle.std.specs.Prelude.{◌≡◌, ◌<◌, ℕ, ◌+◌, true, false, List, [], ◌∷◌, ◌++◌, length, Option, Some, None, Ok, Err, replicate, set, slice_index, slice_index_or, if◌then◌else◌}
use Rattle.std.specs.{List.fold, Option.option_map_or}
use Rattle.snoop_blocks.specs.Places.{changed_at}
use Rattle.snoop_history.specs.Totals.{capped}
use Rattle.snoop_history.specs.declared.items.Item.TheVariants as item
use Rattle.snoop_counts.specs.{Counted.{counted_of, counts, is_named, subject_of}, declared.count.{Count.Count, Happening.Happening, Subjects.Subjects}}
use Rattle.snoop_counts.specs.declared.count.Count.TheVariants as count
use Rattle.snoop_counts.specs.declared.count.Happening.TheVariants as happening
use Rattle.snoop_counts.specs.declared.tally.{Counters.Counters, Tally.Tally}

-- the place of a count among the counters of a row
abbrev pub number : Count → ℕ
number count.Loads = 0
number count.LoadHits = 1
number count.Stores = 2
number count.StoreHits = 3
number count.GetS = 4
number count.GetM = 5
number count.PutM = 6
number count.FromMemory = 7
number count.FromCaches = 8
number count.Writebacks = 9
number count.Clean = 10
number count.Stale = 11
number count.Misses = 12
number count.Cold = 13
number count.GivenUp = 14
number count.TrueSharing = 15
number count.FalseSharing = 16
number count.Upgrades = 17
number count.UpgradesLost = 18
number count.Invalidated = 19
number count.Taken = 20
number count.Downgraded = 21
number count.Overtaken = 22
number count.Invalidates = 23
number count.Supplied = 24
number count.Stalled = 25
number count.BusTaken = 26
number count.NothingWaiting = 27
number count.NoTransaction = 28
number count.Lines = 29
number count.Operations = 30

-- what a row has of a count
abbrev pub counter_in : Counters → Count → ℕ
counter_in row counted = slice_index row.counters (number counted)

-- a row that has counted nothing
abbrev pub empty_row : Counters
empty_row = record { counters = replicate 31 0 }

-- the row with one more of a count; a counter stops at the largest u64
abbrev pub raised_row : Count → Counters → Counters
raised_row counted row = record { counters = set row.counters (number counted) (capped (counter_in row counted + 1)) }

-- the row with one more of a count, if it counts what has happened
abbrev pub raised_if : Happening → Counters → Count → Counters
raised_if seen row counted = if counts counted seen then raised_row counted row else row

-- the row after something has happened, by these counts alone
abbrev pub raised_all : List Count → Happening → Counters → Counters
raised_all list seen row = fold (raised_if seen) row list

-- the rows with one more of a count of the subject, if it has a row
abbrev pub raised : List Counters → ℕ → Count → List Counters
raised rows subject counted = changed_at rows subject (raised_row counted)

-- the rows after something has happened, by this count alone
abbrev pub raised_by : Subjects → Count → Happening → List Counters → List Counters
raised_by whose counted seen rows = if counts counted seen then option_map_or (λ subject. raised rows subject counted) (subject_of whose counted seen) rows else rows

-- the counts that may count an operation
abbrev pub of_operations : List Count
of_operations = count.Loads ∷ count.LoadHits ∷ count.Stores ∷ count.StoreHits ∷ count.Operations ∷ []

-- the counts that may count a request that was ordered
abbrev pub of_requests : List Count
of_requests = count.GetS ∷ count.GetM ∷ count.PutM ∷ []

-- the counts that may count a response, for whom it was sent to
abbrev pub of_responses : List Count
of_responses = count.FromMemory ∷ count.FromCaches ∷ count.Writebacks ∷ count.Clean ∷ count.Stale ∷ []

-- the counts that may count a line, for whom it names: of a step that was taken, and that is no miss
abbrev pub of_rows : List Count
of_rows = count.Lines ∷ count.Misses ∷ count.Upgrades ∷ count.UpgradesLost ∷ count.Invalidated ∷ count.Taken ∷ count.Downgraded ∷ count.Overtaken ∷ []

-- the same of any line
abbrev pub of_lines : List Count
of_lines =
    count.Lines ∷ count.Misses ∷ count.Upgrades ∷ count.UpgradesLost ∷ count.Invalidated ∷ count.Taken ∷ count.Downgraded ∷ count.Overtaken
    ∷ count.Cold ∷ count.GivenUp ∷ count.TrueSharing ∷ count.FalseSharing ∷ count.Stalled ∷ count.BusTaken ∷ count.NothingWaiting ∷ count.NoTransaction ∷ []

-- the counts that may count it, but for `Invalidates` and `Supplied`
abbrev pub tried : Happening → List Count
tried (happening.Item (item.Did did)) = of_operations
tried (happening.Item (item.Sent sent)) = of_requests
tried (happening.Item (item.Came came None)) = of_responses
tried (happening.Item (item.Came came (Some did))) = of_responses ++ of_operations
tried (happening.Line step (Ok answer) line None) = of_rows
tried (happening.Line step (Ok answer) line (Some cause)) = of_lines
tried (happening.Line step (Err refused) line why) = of_lines

-- the rows after something has happened, by these counts
abbrev pub own_raised : Subjects → Happening → List Counters → List Counters
own_raised whose seen rows = option_map_or (λ subject. changed_at rows subject (raised_all (tried seen) seen)) (subject_of whose count.Lines seen) rows

-- the row of a subject
abbrev pub row_at : List Counters → ℕ → Counters
row_at rows subject = slice_index_or rows subject empty_row

-- the rows say how often each count was counted for each subject
pub record TalliesSubjects (whose : Subjects) (rows : List Counters) (seen : List Happening) : Type 0 where
  pub long : (subject : ℕ) → subject < length rows → length (row_at rows subject).counters ≡ 31
  pub counted : (subject : ℕ) (counted : Count) → subject < length rows → counter_in (row_at rows subject) counted ≡ counted_of whose seen subject counted

-- the tally is of these subjects, of which there are so many, and has counted what has happened
pub record HasCounted (whose : Subjects) (many : ℕ) (seen : List Happening) (tally : Tally) : Type 0 where
  pub subjects : tally.subjects ≡ whose
  pub rows : length tally.rows ≡ many
  pub counted : TalliesSubjects whose tally.rows seen

-- the counters of a subject, or none where no line names it
abbrev pub IsRowOf : Subjects → List Happening → ℕ → Option Counters → Type 0
IsRowOf whose seen subject None = is_named whose seen subject ≡ false
IsRowOf whose seen subject (Some row) = (is_named whose seen subject ≡ true) × ((counted : Count) → counter_in row counted ≡ counted_of whose seen subject counted)
