-- The counts of each word of the blocks that cores share, as a text of fields.
-- Source: the fields and their form are this project's profile.
use Rattle.std.specs.{Prelude.{ℕ, Bool, List, [], ◌∷◌, ◌++◌, codes, nat_lt, if◌then◌else◌}, Fmt.decimal, List.{flat_map, range_with_len}}
use Rattle.snoop_trace.specs.{Extent.Extent, Output.word_address, Words.place_of}
use Rattle.snoop_model.specs.Pictures.Situation.{Situation}
use Rattle.snoop_engine.specs.Frames.{Frame}
use Rattle.snoop_counts.specs.{CoreTable.{count_fields, header}, Counted.counted_of, Happenings.happenings, Sharers.{sharers, sharing_fields}, declared.count.Count.Count}
use Rattle.snoop_counts.specs.declared.count.Count.TheVariants as count
use Rattle.snoop_counts.specs.declared.count.{Happening.Happening, Subjects.TheVariants.{Blocks, Words}}

-- the counts of a word, in the order of the fields
abbrev pub word_counts : List Count
word_counts = count.Loads ∷ count.LoadHits ∷ count.Stores ∷ count.StoreHits ∷ []

-- the names of the fields
abbrev pub word_header : List ℕ
word_header = header (codes "block,word,address,cores,readers,writers") word_counts

-- the line of a word, with how many cores performed an operation on it
abbrev pub word_line : Extent → List Happening → ℕ → ℕ → List ℕ
word_line shape seen block word =
    let place = place_of shape.words block word in
    decimal block ++ codes "," ++ decimal word ++ codes "," ++ decimal (word_address shape block word) ++ sharing_fields (Words shape.words) count.Operations shape.cores seen place
    ++ count_fields word_counts (counted_of (Words shape.words) seen place) ++ codes "\n"

-- at least two cores performed an operation on the block
abbrev pub is_shared : Extent → List Happening → ℕ → Bool
is_shared shape seen block = nat_lt 1 (sharers Blocks count.Operations shape.cores seen block)

-- the lines of the words of a block, where it is shared
abbrev pub word_lines : Extent → List Happening → ℕ → List ℕ
word_lines shape seen block = if is_shared shape seen block then flat_map (word_line shape seen block) (range_with_len 0 shape.words) else []

-- the table
abbrev pub word_table : Extent → List Happening → List ℕ
word_table shape seen = word_header ++ flat_map (word_lines shape seen) (range_with_len 0 shape.blocks)

-- the table of a run
abbrev pub counts_by_word : Extent → List Frame → Situation → List ℕ
counts_by_word shape frames final = word_table shape (happenings frames)
