-- The counts of each block, as a text of fields.
-- Source: the fields and their form are this project's profile.
use Rattle.std.specs.Prelude.{ℕ, ◌+◌, List, [], ◌∷◌, ◌++◌, codes, filter, fold, insert, length, map, nat_lt, position, take, unwrap_or, Option, Some, None}
use Rattle.std.specs.{Fmt.decimal, List.{flat_map, range_with_len}}
use Rattle.snoop_trace.specs.{Extent.Extent, Output.address_of}
use Rattle.snoop_history.specs.Totals.{capped}
use Rattle.snoop_model.specs.Pictures.Situation.{Situation}
use Rattle.snoop_engine.specs.Frames.{Frame}
use Rattle.snoop_counts.specs.{CoreTable.{count_fields, header, shared_counts}, Counted.{counted_of, is_named}, Happenings.happenings, Sharers.sharing_fields, declared.ranking.Ranked.Ranked}
use Rattle.snoop_counts.specs.declared.count.{Count.Count, Happening.Happening, Subjects.TheVariants.Blocks}
use Rattle.snoop_counts.specs.declared.count.Count.TheVariants as count

-- the counts of a block
abbrev pub block_counts : List Count
block_counts = shared_counts ++ count.Stalled ∷ count.BusTaken ∷ count.NoTransaction ∷ []

-- the names of the fields
abbrev pub block_header : List ℕ
block_header = header (codes "block,address,cores,readers,writers") block_counts

-- the line of a block, with how many cores a line of it names
abbrev pub block_line : Extent → List Happening → ℕ → List ℕ
block_line shape seen block =
    decimal block ++ codes "," ++ decimal (address_of shape block) ++ sharing_fields Blocks count.Lines shape.cores seen block ++ count_fields block_counts (counted_of Blocks seen block) ++ codes "\n"

-- the blocks that a line names, rising
abbrev pub blocks_named : ℕ → List Happening → List ℕ
blocks_named blocks seen = filter (is_named Blocks seen) (range_with_len 0 blocks)

-- a block, and how many requests for it were ordered
abbrev pub with_requests : List Happening → ℕ → Ranked
with_requests seen block =
    record { block = block; requests = capped (counted_of Blocks seen block count.GetS + counted_of Blocks seen block count.GetM + counted_of Blocks seen block count.PutM) }

-- a block before the first that has fewer requests, or last
abbrev pub placed : List Ranked → Ranked → List Ranked
placed blocks next = insert blocks (unwrap_or (position (λ other. nat_lt other.requests next.requests) blocks) (length blocks)) next

-- the blocks of most requests first, and of equals the one that comes first
abbrev pub ranked : List Ranked → List Ranked
ranked blocks = fold placed [] blocks

-- the blocks that the table has: all that are named, or so many of those with most requests
abbrev pub blocks_shown : Option ℕ → List Ranked → List Ranked
blocks_shown None named = named
blocks_shown (Some most) named = take most (ranked named)

-- the table
abbrev pub block_table : Extent → Option ℕ → List Happening → List ℕ
block_table shape top seen = block_header ++ flat_map (λ shown. block_line shape seen shown.block) (blocks_shown top (map (with_requests seen) (blocks_named shape.blocks seen)))

-- the table of a run
abbrev pub counts_by_block : Extent → Option ℕ → List Frame → Situation → List ℕ
counts_by_block shape top frames final = block_table shape top (happenings frames)
