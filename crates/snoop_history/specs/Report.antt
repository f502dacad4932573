-- The report of a list of items.
-- Source: this project's profile.
use Rattle.std.specs.{Prelude.{ℕ, map, List, ◌++◌, codes}, Fmt.decimal, List.{flat_map, range_with_len}}
use Rattle.snoop_history.specs.{declared.items.{Item.Item, Totals.Totals}, History.flat, Totals.{totals_of, touched}}

-- the performed loads, and how many of them were hits
abbrev pub loads_text : Totals → List ℕ
loads_text t = codes "loads " ++ decimal t.loads ++ codes " hits " ++ decimal t.load_hits ++ codes "\n"

-- the performed stores, and how many of them were hits
abbrev pub stores_text : Totals → List ℕ
stores_text t = codes "stores " ++ decimal t.stores ++ codes " hits " ++ decimal t.store_hits ++ codes "\n"

-- the ordered requests
abbrev pub requests_text : Totals → List ℕ
requests_text t = codes "GetS " ++ decimal t.get_s ++ codes " GetM " ++ decimal t.get_m ++ codes " PutM " ++ decimal t.put_m ++ codes "\n"

-- where data came from
abbrev pub sources_text : Totals → List ℕ
sources_text t = codes "from memory " ++ decimal t.from_memory ++ codes " from caches " ++ decimal t.from_caches ++ codes "\n"

-- what the writebacks carried
abbrev pub writebacks_text : Totals → List ℕ
writebacks_text t = codes "writebacks " ++ decimal t.writebacks ++ codes " clean " ++ decimal t.clean ++ codes " stale " ++ decimal t.stale ++ codes "\n"

-- five lines of totals
abbrev pub totals_text : Totals → List ℕ
totals_text t = loads_text t ++ stores_text t ++ requests_text t ++ sources_text t ++ writebacks_text t

-- values, a space before each
abbrev pub values_text : List ℕ → List ℕ
values_text values = flat_map (λ value. codes " " ++ decimal value) values

-- a block and the values of its words
abbrev pub block_text : ℕ → List ℕ → List ℕ
block_text block values = codes "block " ++ decimal block ++ codes " value" ++ values_text values ++ codes "\n"

-- each of the blocks, of so many words, with its values in flat memory
abbrev pub blocks_text : ℕ → List Item → List ℕ → List ℕ
blocks_text words items blocks = flat_map (λ block. block_text block (map (flat items block) (range_with_len 0 words))) blocks

-- the totals, then each block that an item mentions, in order of first mention
abbrev pub report_of : ℕ → List Item → List ℕ
report_of words items = totals_text (totals_of items) ++ blocks_text words items (touched items)
