-- For which cores something of each block, or each word, was counted.
-- Source: this project's profile.
use Rattle.std.specs.{Prelude.{◌≡◌, ◌<◌, ℕ, ◌&&◌, ◌++◌, Bool, List, codes, filter, length}, Fmt.decimal, List.{list_any, range_with_len}}
use Rattle.snoop_blocks.specs.CoreSet.{has, set_of}
use Rattle.snoop_counts.specs.{Counted.is_counted, declared.count.{Count.Count, Happening.Happening, Subjects.{Subjects, TheVariants.Cores}}}
use Rattle.snoop_counts.specs.declared.count.Count.TheVariants as count
use Rattle.snoop_counts.specs.declared.sharers.Sharers.{Sharers}

-- it is counted for the core and for the subject
abbrev pub is_counted_for_both : Subjects → Count → ℕ → ℕ → Happening → Bool
is_counted_for_both whose counted subject core one = is_counted whose subject counted one && is_counted Cores core counted one

-- something of the subject is counted for the core
abbrev pub is_shared_by : Subjects → Count → List Happening → ℕ → ℕ → Bool
is_shared_by whose counted seen subject core = list_any (is_counted_for_both whose counted subject core) seen

-- for how many of so many cores something of the subject is counted
abbrev pub sharers : Subjects → Count → ℕ → List Happening → ℕ → ℕ
sharers whose counted cores seen subject = length (filter (is_shared_by whose counted seen subject) (range_with_len 0 cores))

-- for how many cores it is counted, how many performed a load of the subject, and how many a store; a comma before each
abbrev pub sharing_fields : Subjects → Count → ℕ → List Happening → ℕ → List ℕ
sharing_fields whose counted cores seen subject =
    codes "," ++ decimal (sharers whose counted cores seen subject) ++ codes "," ++ decimal (sharers whose count.Loads cores seen subject)
    ++ codes "," ++ decimal (sharers whose count.Stores cores seen subject)

-- the sets are of these subjects, of which there are so many, and of this count, and each has the cores for which something of its subject has happened
pub record HasMarked (whose : Subjects) (counted : Count) (many : ℕ) (seen : List Happening) (sharers : Sharers) : Type 0 where
  pub subjects : sharers.subjects ≡ whose
  pub count : sharers.count ≡ counted
  pub sets : length sharers.sets ≡ many
  pub marked : (subject core : ℕ) → subject < many → core < 256 → has (set_of sharers.sets subject) core ≡ is_shared_by whose counted seen subject core
