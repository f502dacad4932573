-- The lines of all caches.
-- Source: this project's profile.
use Rattle.std.specs.Prelude.{◌≡◌, ◌≢◌, ℕ, ◌+◌, ◌-◌, ◌<◌, ◌≤◌, Bool, true, false, List, [], length, map, nat_eq, slice_index_or, slice_set, ◌⊎◌}
use Rattle.std.specs.List.{range_with_len, list_any}
use Rattle.snoop_rules.specs.{declared.names.{CacheState.{CacheState, TheVariants.I}, CacheAction.CacheAction, CacheEvent.CacheEvent}, Cell.Cell}
use Rattle.snoop_trace.specs.declared.protocol.Protocol.{Protocol}
use Rattle.snoop_model.specs.{Moves.Move.moves_to, Pictures.{Lines.Line, Picture.held_at, Proper.IsProper}}
use Rattle.snoop_machine.specs.{declared.lines.Holders.Holders, Holders.{AreHolders, no_holders}, Cache.{Contents, no_cache, line_in, blocks_of, lines_held, gone}}

-- what each core holds of the block
abbrev pub row_of : List (List Line) → ℕ → List Line
row_of rows block = slice_index_or rows block []

-- what the core holds of the block
abbrev pub line_at : List (List Line) → ℕ → ℕ → Line
line_at rows core block = held_at (row_of rows block) core

-- what each core holds, by block, with this line for the core and the block
abbrev pub with_line_at : List (List Line) → ℕ → ℕ → Line → List (List Line)
with_line_at rows core block line = slice_set rows block (slice_set (row_of rows block) core line)

-- what callers see of the lines: what each core holds, by block and then by core; the blocks that each core's map has a line for; and for how many more it has room
pub record Held : Type 0 where
  pub rows : List (List Line)
  pub lines : List (List ℕ)
  pub line_rooms : List ℕ

-- what each core holds, by block
abbrev pub held_by_block : ℕ → List Contents → List (List Line)
held_by_block blocks caches = map (lines_held caches) (range_with_len 0 blocks)

-- the view of the lines
abbrev pub held : List Contents → List Holders → Held
held caches holders =
    record {
      rows = held_by_block (length holders) caches;
      lines = map blocks_of caches;
      line_rooms = map (λ cache. cache.spare) caches;
    }

-- of the room for each core's lines no more goes than lines were put in
abbrev pub KeepsMapsRoom : Held → Held → Type 0
KeepsMapsRoom old new = (core : ℕ) → slice_index_or old.line_rooms core 0 ≤ slice_index_or new.line_rooms core 0 + (length (slice_index_or new.lines core []) - length (slice_index_or old.lines core []))

-- there are 256 cores at most, each line is proper, and the holders of each block are those of its lines
pub record AreLines (caches : List Contents) (holders : List Holders) : Type 0 where
  pub few : length caches < 257
  pub proper : (core block : ℕ) → IsProper (line_in (slice_index_or caches core no_cache) block)
  pub indexed : (block : ℕ) → block < length holders → AreHolders (slice_index_or holders block no_holders) (lines_held caches block)

-- whether a map with lines for these blocks has one for this block
abbrev pub is_among : List ℕ → ℕ → Bool
is_among blocks block = list_any (nat_eq block) blocks

-- the line may move to this state: the core holds the block, or its map has a line for it, which leaves I
abbrev pub MayMoveTo : Held → ℕ → ℕ → CacheState → Type 0
MayMoveTo l core block next = ((line_at l.rows core block).state ≢ I) ⊎ ((is_among (slice_index_or l.lines core []) block ≡ true) × (next ≢ I))

-- of each core's map as many lines go as its line of the block moves to I
abbrev pub LinesGo : ℕ → Held → Held → Type 0
LinesGo block old new =
    (core : ℕ) → length (slice_index_or new.lines core []) + gone (line_at old.rows core block).state (line_at new.rows core block).state ≡ length (slice_index_or old.lines core [])

-- the core has this line of the block now; where another state gave way to I, the core's map has one line less, and none for the block; all other lines are there as before, and no room for lines is lost
pub record WritesLine (core block : ℕ) (line : Line) (old new : Held) : Type 0 where
  pub rows : new.rows ≡ with_line_at old.rows core block line
  pub stays : line.state ≢ I → new.lines ≡ old.lines
  pub taken : (line_at old.rows core block).state ≢ I → line.state ≡ I → is_among (slice_index_or new.lines core []) block ≡ false
  pub elsewhere : (b : ℕ) → nat_eq block b ≡ false → is_among (slice_index_or new.lines core []) b ≡ is_among (slice_index_or old.lines core []) b
  pub many : length new.lines ≡ length old.lines
  pub lines : length (slice_index_or new.lines core []) + gone (line_at old.rows core block).state line.state ≡ length (slice_index_or old.lines core [])
  pub others : (k : ℕ) → k ≢ core → slice_index_or new.lines k [] ≡ slice_index_or old.lines k []
  pub room : KeepsMapsRoom old new

-- only lines of this block have changed: each core's map has one line less where its line of the block moved to I, and no room for lines is lost
pub record WritesRow (block : ℕ) (old new : Held) : Type 0 where
  pub rows : new.rows ≡ slice_set old.rows block (row_of new.rows block)
  pub many : length new.lines ≡ length old.lines
  pub lines : LinesGo block old new
  pub room : KeepsMapsRoom old new

-- a core has taken its row of the block for an event
pub record TookRow (protocol : Protocol) (event : CacheEvent) (core block : ℕ) (old new : Held) : Type 0 where
  pub action : CacheAction
  pub next : CacheState
  pub row : Cell protocol (line_at old.rows core block).state event action next
  pub wrote : WritesLine core block (moves_to next (line_at old.rows core block)) old new
