-- The counts of each core, as a text of fields.
-- Source: the fields and their form are this project's profile.
use Rattle.std.specs.{Prelude.{ℕ, List, [], ◌∷◌, ◌++◌, codes, if◌then◌else◌}, Fmt.decimal, List.{flat_map, range_with_len}}
use Rattle.snoop_trace.specs.Extent.{Extent}
use Rattle.snoop_model.specs.Pictures.Situation.{Situation}
use Rattle.snoop_engine.specs.Frames.{Frame}
use Rattle.snoop_counts.specs.{Counted.{counted_of, is_named}, Happenings.happenings, declared.count.{Count.Count, Happening.Happening}}
use Rattle.snoop_counts.specs.declared.count.Count.TheVariants as count
use Rattle.snoop_counts.specs.declared.count.Subjects.TheVariants.{Cores}

-- what the field of a count is called
unfoldable pub count_name : Count → List ℕ
count_name count.Loads = codes "loads"
count_name count.LoadHits = codes "load_hits"
count_name count.Stores = codes "stores"
count_name count.StoreHits = codes "store_hits"
count_name count.GetS = codes "gets"
count_name count.GetM = codes "getm"
count_name count.PutM = codes "putm"
count_name count.FromMemory = codes "from_memory"
count_name count.FromCaches = codes "from_caches"
count_name count.Writebacks = codes "writebacks"
count_name count.Clean = codes "clean"
count_name count.Stale = codes "stale"
count_name count.Misses = codes "misses"
count_name count.Cold = codes "cold"
count_name count.GivenUp = codes "given_up"
count_name count.TrueSharing = codes "true_sharing"
count_name count.FalseSharing = codes "false_sharing"
count_name count.Upgrades = codes "upgrades"
count_name count.UpgradesLost = codes "upgrades_lost"
count_name count.Invalidated = codes "invalidated"
count_name count.Taken = codes "taken"
count_name count.Downgraded = codes "downgraded"
count_name count.Overtaken = codes "overtaken"
count_name count.Invalidates = codes "invalidates"
count_name count.Supplied = codes "supplied"
count_name count.Stalled = codes "stalled"
count_name count.BusTaken = codes "bus_taken"
count_name count.NothingWaiting = codes "nothing_waiting"
count_name count.NoTransaction = codes "no_transaction"
count_name count.Lines = codes "lines"
count_name count.Operations = codes "operations"

-- the names of these counts, a comma before each
abbrev pub name_fields : List Count → List ℕ
name_fields counts = flat_map (λ counted. codes "," ++ count_name counted) counts

-- a line of names: these, and those of the counts
unfoldable pub header : List ℕ → List Count → List ℕ
header first counts = first ++ name_fields counts ++ codes "\n"

-- the fields of these counts, a comma before each
abbrev pub count_fields : List Count → (Count → ℕ) → List ℕ
count_fields counts value = flat_map (λ counted. codes "," ++ decimal (value counted)) counts

-- the counts that cores, blocks and the machine all have, in the order of the fields
abbrev pub shared_counts : List Count
shared_counts =
    count.Loads ∷ count.LoadHits ∷ count.Stores ∷ count.StoreHits ∷ count.GetS ∷ count.GetM ∷ count.PutM ∷ count.FromMemory ∷ count.FromCaches ∷ count.Writebacks ∷ count.Clean ∷ count.Stale
    ∷ count.Misses ∷ count.Cold ∷ count.GivenUp ∷ count.TrueSharing ∷ count.FalseSharing
    ∷ count.Upgrades ∷ count.UpgradesLost ∷ count.Invalidated ∷ count.Taken ∷ count.Downgraded ∷ count.Overtaken ∷ []

-- the counts of a core
abbrev pub core_counts : List Count
core_counts = shared_counts ++ count.Invalidates ∷ count.Supplied ∷ count.Stalled ∷ count.BusTaken ∷ count.NothingWaiting ∷ []

-- the line of a core, if a line of a step names it
abbrev pub core_line : List Happening → ℕ → List ℕ
core_line seen core = if is_named Cores seen core then decimal core ++ count_fields core_counts (counted_of Cores seen core) ++ codes "\n" else []

-- the table of so many cores
abbrev pub core_table : ℕ → List Happening → List ℕ
core_table cores seen = header (codes "core") core_counts ++ flat_map (core_line seen) (range_with_len 0 cores)

-- the table of a run
abbrev pub counts_by_core : Extent → List Frame → Situation → List ℕ
counts_by_core shape frames final = core_table shape.cores (happenings frames)
