-- What holds of all tables of counts.
-- Source: this project's profile.
use Rattle.std.specs.{Prelude.{◌≡◌, ℕ, ◌+◌, List, ◌++◌}, List.{range_with_len, sum_by}}
use Rattle.snoop_trace.specs.{Extent.{Extent, IsWithinLimits}, Words.place_of}
use Rattle.snoop_history.specs.{Totals.totals_of, declared.items.{Item.Item, Totals.Totals}}
use Rattle.snoop_engine.specs.Frames.{Frame, OfAnySteps}
use Rattle.snoop_counts.specs.{Counted.times_counted, Happenings.{happenings, seen_after}, declared.count.{Count.Count, Happening.Happening}}
use Rattle.snoop_counts.specs.declared.count.Count.TheVariants as count
use Rattle.snoop_counts.specs.declared.count.Subjects.{Subjects, TheVariants.{Blocks, Cores, Machine, Words}}

-- the sum of a count over so many subjects
abbrev pub sum_of : Subjects → ℕ → List Happening → Count → ℕ
sum_of whose many seen counted = sum_by (λ subject. times_counted whose seen subject counted) (range_with_len 0 many)

-- the sums of the twelve counts of the report
abbrev pub sums_of : Subjects → ℕ → List Happening → Totals
sums_of whose many seen =
    record {
      loads = sum_of whose many seen count.Loads;
      load_hits = sum_of whose many seen count.LoadHits;
      stores = sum_of whose many seen count.Stores;
      store_hits = sum_of whose many seen count.StoreHits;
      get_s = sum_of whose many seen count.GetS;
      get_m = sum_of whose many seen count.GetM;
      put_m = sum_of whose many seen count.PutM;
      from_memory = sum_of whose many seen count.FromMemory;
      from_caches = sum_of whose many seen count.FromCaches;
      writebacks = sum_of whose many seen count.Writebacks;
      clean = sum_of whose many seen count.Clean;
      stale = sum_of whose many seen count.Stale;
    }

-- over all cores, over all blocks, and of the machine, of which there is one, they are those of these items
pub record HasTotals (shape : Extent) (frames : List Frame) (items : List Item) : Type 0 where
  pub cores : sums_of Cores shape.cores (happenings frames) ≡ totals_of items
  pub blocks : sums_of Blocks shape.blocks (happenings frames) ≡ totals_of items
  pub machine : sums_of Machine 1 (happenings frames) ≡ totals_of items

-- in the run of any steps, over all cores, over all blocks, and of the machine, the sums of the first twelve counts are those of the report
abbrev pub SumsAreTotals : Type 0
SumsAreTotals = OfAnySteps (λ protocol shape steps frames final. HasTotals shape frames final.log)

-- of every core and block, and of the machine, the misses are those of the four causes; of a word none are counted
abbrev pub CausesAreAll : Type 0
CausesAreAll =
    (frames : List Frame) (whose : Subjects) (subject : ℕ) → let seen = happenings frames in
    times_counted whose seen subject count.Misses
    ≡ times_counted whose seen subject count.Cold + times_counted whose seen subject count.GivenUp + times_counted whose seen subject count.TrueSharing + times_counted whose seen subject count.FalseSharing

-- steps that are cut in two, at any place, have the counts of both parts together
abbrev pub PartsAddUp : Type 0
PartsAddUp =
    (earlier first rest : List Frame) (whose : Subjects) (subject : ℕ) (counted : Count)
    → times_counted whose (seen_after earlier (first ++ rest)) subject counted ≡ times_counted whose (seen_after earlier first) subject counted + times_counted whose (seen_after (earlier ++ first) rest) subject counted

-- over all cores, what cores do to others has the sum of what is done to them
pub record SuffersWhatIsDone (shape : Extent) (frames : List Frame) : Type 0 where
  pub invalidates : sum_of Cores shape.cores (happenings frames) count.Invalidates ≡ sum_of Cores shape.cores (happenings frames) count.Invalidated
  pub supplied : sum_of Cores shape.cores (happenings frames) count.Supplied ≡ sum_of Cores shape.cores (happenings frames) count.FromCaches

-- in the run of any steps, over all cores, what cores do to others has the sum of what others do to them
abbrev pub DoneIsSuffered : Type 0
DoneIsSuffered = OfAnySteps (λ protocol shape steps frames final. SuffersWhatIsDone shape frames)

-- the sum of a count over the words of a block
abbrev pub sum_of_words : Extent → List Happening → ℕ → Count → ℕ
sum_of_words shape seen block counted = sum_by (λ word. times_counted (Words shape.words) seen (place_of shape.words block word) counted) (range_with_len 0 shape.words)

-- over the words of a block, the counts of the words have the sums that the block has
pub record HasSumsOfWords (shape : Extent) (seen : List Happening) (block : ℕ) : Type 0 where
  pub loads : sum_of_words shape seen block count.Loads ≡ times_counted Blocks seen block count.Loads
  pub load_hits : sum_of_words shape seen block count.LoadHits ≡ times_counted Blocks seen block count.LoadHits
  pub stores : sum_of_words shape seen block count.Stores ≡ times_counted Blocks seen block count.Stores
  pub store_hits : sum_of_words shape seen block count.StoreHits ≡ times_counted Blocks seen block count.StoreHits

-- in the run of any steps, for a shape within its limits, over the words of each block, the counts of the words have the sums that the block has
abbrev pub WordsAddUp : Type 0
WordsAddUp = OfAnySteps (λ protocol shape steps frames final. IsWithinLimits shape → (block : ℕ) → HasSumsOfWords shape (happenings frames) block)
