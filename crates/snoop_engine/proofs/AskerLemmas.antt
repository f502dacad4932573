-- The cores that ask for a block are those in its set.
use Rattle.std.proofs.{Common.ext_get_or, lemmas.List.{get_or-map, FromFn.{length-map-range_with_len, get_or-map-range_with_len}}}
use Rattle.snoop_blocks.specs.CoreSet.{has}
use Rattle.snoop_engine.proofs.{Common.{◌≡◌, ◌∙◌, ℕ, ◌+◌, ◌<◌, List, [], zero, suc, false, filter, map, length, length-map, refl, sym, inl, inr, cases_lt, get_or_past, arith, range_with_len, Extent, Step, slice_index_or}, RangeLemmas.filter_range}
use Rattle.snoop_engine.specs.Askers.{AreSetsBy, all_askers, askers, cores_in, is_asker}

-- no number of a range is in a set that has none
none_in : (set : List ℕ) → ((core : ℕ) → has set core ≡ false) → (from n : ℕ) → filter (has set) (range_with_len from n) ≡ []
none_in set none from zero = refl
none_in set none from (suc n) = rw (none from, none_in set none (from + 1) n) refl

-- a set that has no core has none of so many
pub none_of : (cores : ℕ) (set : List ℕ) → ((core : ℕ) → has set core ≡ false) → cores_in cores set ≡ []
none_of cores set none = none_in set none 0 cores

-- those of a block, of those of all: none past the last block, where the set has no core
pub cores_at : (cores block : ℕ) (sets : List (List ℕ)) (past : List ℕ) → ((core : ℕ) → has past core ≡ false)
    → slice_index_or (map (cores_in cores) sets) block [] ≡ cores_in cores (slice_index_or sets block past)
cores_at cores block sets past none = elim (cases_lt block (length sets)) [
  | inl there ↦ get_or-map (cores_in cores) sets block past [] there
  | inr above ↦ rw (get_or_past (map (cores_in cores) sets) block [] (omega (arith, length-map sets (cores_in cores))), get_or_past sets block past above) (sym (none_of cores past none))
]

-- the cores that ask for a block, of those for all
pub askers_at : (shape : Extent) (steps : List Step) (block : ℕ) → block < shape.blocks → slice_index_or (all_askers shape steps) block [] ≡ askers shape steps block
askers_at shape steps block low = get_or-map-range_with_len (askers shape steps) 0 shape.blocks block block [] low (omega arith)

-- sets of the cores that ask for each block are those who ask
pub those_who_ask : (shape : Extent) (steps : List Step) (sets : List (List ℕ)) → AreSetsBy shape (is_asker steps) sets → map (cores_in shape.cores) sets ≡ all_askers shape steps
those_who_ask shape steps sets are =
    let many = length-map-range_with_len (askers shape steps) 0 shape.blocks in
    ext_get_or [] (map (cores_in shape.cores) sets) (all_askers shape steps) (length-map sets (cores_in shape.cores) ∙ are.count ∙ sym many)
    (λ block low.
    let inside : block < length sets = rw (length-map sets (cores_in shape.cores)) at low in
    get_or-map (cores_in shape.cores) sets block [] [] inside
    ∙ filter_range _ _ 0 shape.cores (λ core up few. are.each block core (omega (arith, are.count)) (omega arith))
    ∙ sym (askers_at shape steps block (omega (arith, are.count))))
