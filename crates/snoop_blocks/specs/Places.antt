-- Where the values of a table stand that were written.
-- Source: this project's profile.
use Rattle.std.specs.Prelude.{◌≡◌, ◌≢◌, ◌<◌, ◌≤◌, ◌+◌, ◌^◌, ◌==◌, ℕ, zero, suc, List, length, map, count_by, slice_get, slice_index_or, slice_set}
use Rattle.std.specs.Option.{option_map_or}

-- the value at a place: the first value where nothing was written
abbrev pub value_at : {X : Type 0} → X → List X → ℕ → X
value_at first written zero = first
value_at first written (suc place) = slice_index_or written place first

-- the values of all blocks
abbrev pub seen : {X : Type 0} → X → List X → List ℕ → List X
seen first written places = map (value_at first written) places

-- the values with that of the block changed so, if there is such a block
abbrev pub changed_at : {X : Type 0} → List X → ℕ → (X → X) → List X
changed_at values block change = option_map_or (λ value. slice_set values block (change value)) (slice_get values block) values

-- how many blocks were never written
abbrev pub unwritten : List ℕ → ℕ
unwritten places = count_by (λ place. place == 0) places

-- each place is that of a value, two blocks never have the same, each value has one, and there is room for those to come
pub record ArePlaces {X : Type 0} (places : List ℕ) (written : List X) (capacity : ℕ) : Type 0 where
  pub few : length places < 2 ^ 32
  pub within : (block : ℕ) → slice_index_or places block 0 ≤ length written
  pub apart : (one other : ℕ) → one ≢ other → slice_index_or places one 0 ≡ slice_index_or places other 0 → slice_index_or places one 0 ≡ 0
  pub whole : length written + unwritten places ≡ length places
  pub room : length places ≤ capacity
